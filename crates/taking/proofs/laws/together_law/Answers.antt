use Rattle.rules.proofs.Taking.{advances_together, copies_together}
use Rattle.taking.proofs.laws.together_law.Goals as goal

pub returns : goal.returns
returns c = record { advance = advances_together; copy = copies_together }
