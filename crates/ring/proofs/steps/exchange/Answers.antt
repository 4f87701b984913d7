use Rattle.std.proofs.Common.{set, ap, ◌∙◌, arith, rules}
use Rattle.lists.proofs.Rings.{turned_at, turned_set}
use Rattle.lists.specs.Rings.{turned}
use Rattle.ring.proofs.Kept.{kept}
use Rattle.ring.proofs.steps.exchange.Goals as goal

pub returns : goal.returns
returns g c =
    let s = c.args.slots.now in
    let h = c.args.head in
    let i = c.args.i in
    let k = c.place-k.result in
    record {
      value = λ n lies within. turned_at s h n i k c.replace.result (omega arith) lies.2 (omega arith) c.place-k.ensures (search rules);
      after = λ n lies within.
          (ap (λ x. turned (set s k x) h n) c.replace.ensures.after ∙ turned_set s h n i k c.args.x (omega arith) lies.2 (omega arith) c.place-k.ensures, kept s h n k c.replace.new.dest lies.0 lies.1 lies.2);
    }
