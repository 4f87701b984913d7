use Rattle.std.proofs.Common.{◌≡◌, rules, tests}
use Rattle.std.specs.List.{prefix_len}
use Rattle.text.specs.Words.{blank, solid, behind}
use Rattle.text.proofs.Fronts.{front_len}
use Rattle.text.proofs.words.next_word.Goals as goal

pub returns : goal.returns
returns c =
    let gap : c.count-gap.result ≡ prefix_len blank c.args.text.now = front_len blank c.args.text.now (cc) c.take_while.ensures.source c.take_while.ensures.closure c.take_while.ensures.done (λ x b q k. search (rules, tests)) c.count-gap.ensures.ran in
    let len : c.count-len.result ≡ prefix_len solid (behind blank c.args.text.now) = front_len solid (behind blank c.args.text.now) (cc) c.take_while-2.ensures.source c.take_while-2.ensures.closure c.take_while-2.ensures.done (λ x b q k. search (rules, tests)) c.count-len.ensures.ran in
    record { word = search rules; rest = search rules }
