use Rattle.std.proofs.Common.{ℕ, ◌<◌, get_or}
use Rattle.ring.proofs.steps.blank_all.Given as goal

-- the slots so far are blank
abbrev pub invariant-loop-slot : goal.invariant-loop-slot
invariant-loop-slot g l = (k : ℕ) (d : g.row.T.Denot) → k < l.slot-index → g.B.Blanks.empty (get_or l.slots k d)
