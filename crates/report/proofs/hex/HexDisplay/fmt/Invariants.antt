use Rattle.std.proofs.Common.{◌∷◌, take, Ok}
use Rattle.std.specs.List.{flat_map}
use Rattle.std.specs.Fmt.{WritesOnOk}
use Rattle.report.specs.Hex.{pair}
use Rattle.report.proofs.hex.HexDisplay.fmt.Given as goal

abbrev pub invariant-loop-b : goal.invariant-loop-b
invariant-loop-b g l = WritesOnOk g.W.Write.write_str_gives l.initial.f (Ok tt) (flat_map (λ b. 32 ∷ pair b) (take l.b-index l.rest)) l.f
