use Rattle.std.proofs.Common.{◌≡◌, ◌++◌, drop}
use Rattle.kinds.specs.Pattern.{rising}
use Rattle.kinds.proofs.rising.calls.RisingChunk.pour_out.Given as goal

abbrev pub invariant-loop-i : goal.invariant-loop-i
invariant-loop-i l = l.front ≡ rising l.self.start l.i ++ drop l.i l.initial.front
