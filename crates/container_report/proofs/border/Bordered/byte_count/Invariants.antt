use Rattle.std.proofs.Common.{◌≡◌, length, take}
use Rattle.container_report.proofs.Counted.{left_behind}
use Rattle.container_report.proofs.border.Bordered.byte_count.Given as goal

abbrev pub invariant-loop-size : goal.invariant-loop-size
invariant-loop-size l = l.left_over ≡ left_behind (take l.size-index l.self.sizes.now) (length l.self.bytes.now)
