use Rattle.std.proofs.Common.{◌≡◌, ◌-◌, ◌≤◌, length}
use Rattle.store.specs.declared.space.Store.{Store}
use Rattle.ring.specs.Model.{items, limit}
use Rattle.rules.specs.Taking.{left_in}
use Rattle.rules.specs.declared.form.Form.TheVariants.{Small}
use Rattle.taking.specs.Rings.{values}
use Rattle.taking.proofs.Rounds.{rotated}
use Rattle.taking.proofs.advance.advance_small_chunks.Given as goal

abbrev pub invariant-loop : goal.invariant-loop
invariant-loop g l = let m = g.K.Chunk in
    (l.end - l.counter ≤ length (items l.ring))
    × (limit l.ring ≡ limit l.initial.ring)
    × ((s : Store) → rotated (m.value s) (l.end - l.counter) l.due (items l.ring) ≡ left_in Small l.n (values m s l.initial.ring))
