use Rattle.std.proofs.Common.{arith}
use Rattle.text.proofs.Decimal.{on_large}
use Rattle.text.proofs.numbers.decimal.Goals as goal

pub returns-in_err-checked_mul : goal.returns-in_err-checked_mul
returns-in_err-checked_mul c =
    rw c.from_residual.ensures (on_large c.loop-b.invariant c.loop-b-test.true (omega (arith, c.in_err-checked_mul.ensures)))

pub returns-in_err-value : goal.returns-in_err-value
returns-in_err-value c =
    let tens = c.in_ok-checked_mul.ensures in
    rw c.from_residual-in_err-value.ensures (on_large c.loop-b.invariant c.loop-b-test.true (omega (arith, c.in_err-value.ensures)))
