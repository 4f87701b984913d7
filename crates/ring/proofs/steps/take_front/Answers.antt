use Rattle.std.proofs.Common.{◌≡◌, ◌+◌, ◌-◌, ap, ◌∙◌, arith, rules}
use Rattle.lists.proofs.Rings.{turned_pop}
use Rattle.lists.specs.Rings.{turned}
use Rattle.ring.proofs.Kept.{kept}
use Rattle.ring.proofs.steps.take_front.Goals as goal

pub returns : goal.returns
returns g c =
    let s = c.args.slots.now in
    let h = c.args.head in
    let h' = c.place-next.result in
    record {
      popped = λ n lies some.
          let one : n ≡ n - 1 + 1 = omega arith in
          (ap (turned s h) one ∙ turned_pop s h h' (n - 1) _ _ (omega arith) (omega arith) c.place-next.ensures (search rules), kept s h' _ h _ lies.0 (omega arith) (omega arith));
      slot = search rules;
    }
