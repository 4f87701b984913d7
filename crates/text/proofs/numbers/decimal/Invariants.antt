use Rattle.text.specs.Numbers.{decimal_of}
use Rattle.text.proofs.Decimal.{SoFar}
use Rattle.text.proofs.numbers.decimal.Given as goal

abbrev pub invariant-loop-b : goal.invariant-loop-b
invariant-loop-b l = SoFar l.word l.b-index l.value (decimal_of l.word)
