use Rattle.std.proofs.Common.{◌≡◌, ℕ, List, ◌++◌, drop, Ok}
use Rattle.std.specs.Fmt.{WritesOnOk}
use Rattle.container_report.proofs.Bordering.{others_words}
use Rattle.container_report.proofs.border.BorderedDisplay.fmt.Given as goal

-- what was written, and what is still to be written behind it
abbrev pub invariant-loop-size : goal.invariant-loop-size
invariant-loop-size g l = (done : List ℕ) × WritesOnOk g.W.Write.write_str_gives l.initial.f (Ok tt) done l.f × (done ++ others_words (drop l.size-index l.others) l.rest ≡ others_words l.others l.initial.rest)
