use Rattle.std.proofs.Common.{◌≡◌, ◌+◌, ◌≤◌, length, drop, filter}
use Rattle.taking.specs.Rings.{kept_of}
use Rattle.moving.proofs.putting.count_kept.Given as goal

abbrev pub invariant-loop-candidate : goal.invariant-loop-candidate
invariant-loop-candidate g l = let q = kept_of g.K.Chunk in
    (l.count ≤ l.candidate-index) × (l.count + length (filter q (drop l.candidate-index l.given)) ≡ length (filter q l.given))
