use Rattle.std.proofs.Common.{codes, rules, arith}
use Rattle.std.proofs.lemmas.Slice.Eq.{text_from_reads}
use Rattle.text.proofs.lines.call_named.Goals as goal

pub returns-in-advance : goal.returns-in-advance
returns-in-advance c = rw (text_from_reads c.args.name.now (codes "advance") (omega arith) (search rules)) (search rules)

pub returns-in-119 : goal.returns-in-119
returns-in-119 c = rw (text_from_reads c.args.name.now (codes "write_out") (omega arith) (search rules)) (search rules)
