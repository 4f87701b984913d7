use Rattle.std.proofs.Common.{◌≡◌, ◌++◌, drop, filter}
use Rattle.ring.specs.Model.{items, limit}
use Rattle.taking.specs.Rings.{kept_of}
use Rattle.moving.proofs.putting.fill.Given as goal

abbrev pub invariant-loop-chunk : goal.invariant-loop-chunk
invariant-loop-chunk g l = let q = kept_of g.K.Chunk in
    (items l.ring ++ filter q (drop l.chunk-index l.given) ≡ filter q l.given) × (limit l.ring ≡ limit l.initial.ring)
