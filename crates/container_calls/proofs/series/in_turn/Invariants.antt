use Rattle.std.proofs.Common.{◌≡◌, min, length, take, drop}
use Rattle.store.specs.Sizes.{chunk_limit}
use Rattle.container_calls.specs.Performed.{step_of}
use Rattle.container_calls.proofs.Listed.{SoFar}
use Rattle.container_calls.proofs.series.in_turn.Given as goal

abbrev pub invariant-loop-i : goal.invariant-loop-i
invariant-loop-i g l =
    let k = g.K.Chunk in
    let step = step_of k (min chunk_limit (length l.initial.slots)) 0 (length l.initial.out) in
    SoFar k step l.store l.initial.bufs.ring l.initial.log.bytes.now (take l.i l.calls) l.bufs.ring (take l.i l.answers) l.log.bytes.now l.log.len
    × (drop l.i l.answers ≡ drop l.i l.initial.answers)
    × (l.log.bytes.ghost_name ≡ l.initial.log.bytes.ghost_name)
