use Rattle.std.proofs.Common.{◌≡◌, ◌+◌, ◌≤◌, length}
use Rattle.store.specs.declared.space.Store.{Store}
use Rattle.ring.specs.Model.{items, limit}
use Rattle.rules.specs.Taking.{fronts_dropped}
use Rattle.taking.specs.Rings.{values, bytes_in}
use Rattle.taking.proofs.advance.advance_chunked_front.Given as goal

abbrev pub invariant-loop-left : goal.invariant-loop-left
invariant-loop-left g l = let m = g.K.Chunk in
    (l.left ≤ bytes_in m l.ring)
    × (limit l.ring ≡ limit l.initial.ring)
    × ((s : Store) → fronts_dropped l.left (values m s l.ring) ≡ fronts_dropped l.n (values m s l.initial.ring))

abbrev pub decreases-loop-left : goal.decreases-loop-left
decreases-loop-left g l = l.left + length (items l.ring)
