use Rattle.std.proofs.Common.{◌≡◌, ◌+◌, ◌-◌, ◌≤◌, ◌++◌, map, length, take, drop}
use Rattle.rules.specs.Chunks.{joined}
use Rattle.taking.specs.Rings.{values}
use Rattle.taking.proofs.copy.copy_out.Given as goal

-- what is written, and the bytes that are still to come, are the first n
abbrev pub invariant-loop-chunk : goal.invariant-loop-chunk
invariant-loop-chunk g l = let m = g.K.Chunk in
    let rest = joined (map (m.value l.store) l.chunk-iterator) in
    (l.at ≤ l.n)
    × (l.n ≤ l.at + length rest)
    × (take l.at l.out ++ take (l.n - l.at) rest ≡ take l.n (joined (values m l.store l.ring)))
    × (drop l.n l.out ≡ drop l.n l.initial.out)
