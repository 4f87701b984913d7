use Rattle.std.proofs.Common.{sym, ap}
use Rattle.store.specs.Faults.{refusal_words}
use Rattle.store.proofs.fault.Refusal.words.Goals as goal

pub returns-in-NotEmpty : goal.returns-in-NotEmpty
returns-in-NotEmpty c = ap refusal_words (sym c.in-NotEmpty.is)

pub returns-in-LengthsDiffer : goal.returns-in-LengthsDiffer
returns-in-LengthsDiffer c = ap refusal_words (sym c.in-LengthsDiffer.is)
