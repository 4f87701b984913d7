use Rattle.std.proofs.Common.{◌≡◌, ◌+◌, ◌-◌, ◌≤◌, ◌++◌, length, take, drop}
use Rattle.ring.specs.Model.{items, limit}
use Rattle.moving.proofs.splitting.hand_over.Given as goal

abbrev pub invariant-loop : goal.invariant-loop
invariant-loop g l =
    (items l.to ++ take (l.count - l.counter) (items l.from) ≡ items l.initial.to ++ take l.count (items l.initial.from))
    × (drop (l.count - l.counter) (items l.from) ≡ drop l.count (items l.initial.from))
    × (l.count - l.counter ≤ length (items l.from))
    × (length (items l.to) + (l.count - l.counter) ≤ limit l.to)
    × ((limit l.from ≡ limit l.initial.from) × (limit l.to ≡ limit l.initial.to))
