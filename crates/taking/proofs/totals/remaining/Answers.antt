use Rattle.std.proofs.Common.{◌∙◌, rules}
use Rattle.ring.specs.Model.{items}
use Rattle.taking.proofs.Sums.{sum_sizes}
use Rattle.taking.proofs.totals.remaining.Goals as goal

pub returns-clause-bytes : goal.returns-clause-bytes
returns-clause-bytes g c = λ s. let m = g.K.Chunk in search rules ∙ sum_sizes (m.value s) m.size (g.met.K.Chunk.sized s) (items c.args.ring.now)
