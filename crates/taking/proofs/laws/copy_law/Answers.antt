use Rattle.std.proofs.Common.{take, sym, ap, ◌∙◌, subst, arith}
use Rattle.std.proofs.lemmas.List.{take_at, length-take-le}
use Rattle.ring.specs.Model.{items}
use Rattle.rules.specs.Chunks.{joined}
use Rattle.rules.specs.Laws.{AllKept}
use Rattle.rules.proofs.Documented.{documented}
use Rattle.rules.proofs.Taking.{takes_copy}
use Rattle.taking.specs.Rings.{values}
use Rattle.taking.proofs.Rules.{copy_rule}
use Rattle.taking.proofs.Sums.{sum_sizes}
use Rattle.taking.proofs.laws.copy_law.Goals as goal

pub returns : goal.returns
returns g c = λ n s b d was out p.
    let m = g.K.Chunk in
    let vs = values m s b in
    let sized = g.met.K.Chunk.sized s in
    let rule = copy_rule m s n b d sized p.ring in
    let size = sum_sizes (m.value s) m.size sized (items b) in
    let advances = documented n (joined vs) (joined (values m s d)) (omega (arith, p.within)) (ap joined rule ∙ takes_copy.bytes n vs (omega (arith, p.within))) in
    record {
      rule = rule;
      documented = record { advances = advances; next = ap (take n) p.output ∙ take_at (take n (joined vs)) _ n (length-take-le n (joined vs) (omega (arith, p.within))) };
      kept = λ a. subst AllKept (sym rule) (takes_copy.kept n vs a);
    }
