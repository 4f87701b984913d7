use Rattle.std.proofs.Common.{sym, ap, ◌∙◌, subst, arith}
use Rattle.ring.specs.Model.{items}
use Rattle.rules.specs.Chunks.{joined}
use Rattle.rules.specs.Laws.{AllKept}
use Rattle.rules.proofs.Documented.{documented}
use Rattle.rules.proofs.Taking.{takes_advance}
use Rattle.taking.specs.Rings.{values}
use Rattle.taking.proofs.Rules.{advance_rule}
use Rattle.taking.proofs.Sums.{sum_sizes}
use Rattle.taking.proofs.laws.advance_law.Goals as goal

pub returns : goal.returns
returns g c = λ n b d h l s.
    let m = g.K.Chunk in
    let vs = values m s b in
    let rule = advance_rule m s n b d l in
    let size = sum_sizes (m.value s) m.size (g.met.K.Chunk.sized s) (items b) in
    record {
      rule = rule;
      documented = documented n (joined vs) (joined (values m s d)) (omega arith) (ap joined rule ∙ takes_advance.bytes n vs (omega arith));
      kept = λ a. subst AllKept (sym rule) (takes_advance.kept n vs a);
    }
