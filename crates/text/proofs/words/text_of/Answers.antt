use Rattle.std.proofs.Common.{ap, take, rules, tests}
use Rattle.text.specs.Words.{plain}
use Rattle.text.proofs.Fronts.{front_len}
use Rattle.text.proofs.words.text_of.Goals as goal

pub returns : goal.returns
returns c =
    ap (λ n. take n c.args.line.now) (front_len plain c.args.line.now (cc) c.take_while.ensures.source c.take_while.ensures.closure c.take_while.ensures.done (λ x b q k. search (rules, tests)) c.count-len.ensures.ran)
