use Rattle.std.proofs.Common.{◌≡◌, ◌-◌, ◌≤◌, length}
use Rattle.ring.specs.Model.{items}
use Rattle.rules.specs.Splitting.{cut_at}
use Rattle.rules.proofs.Splitting.{from}
use Rattle.moving.proofs.splitting.find.Given as goal

abbrev pub invariant-loop-i : goal.invariant-loop-i
invariant-loop-i g l = let size = g.K.Chunk.size in
    (l.i ≤ length (items l.ring)) × (from size l.i l.left (items l.ring) ≡ cut_at size l.n (items l.ring))

abbrev pub decreases-loop-i : goal.decreases-loop-i
decreases-loop-i g l = length (items l.ring) - l.i
