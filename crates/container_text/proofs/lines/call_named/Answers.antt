use Rattle.std.proofs.Common.{codes, rules, arith}
use Rattle.std.proofs.lemmas.Slice.Eq.{text_from_reads}
use Rattle.container_text.proofs.lines.call_named.Goals as goal

pub returns-in-append : goal.returns-in-append
returns-in-append c = rw (text_from_reads c.args.name.now (codes "append") (omega arith) (search rules)) (search rules)

pub returns-in-prepend : goal.returns-in-prepend
returns-in-prepend c = rw (text_from_reads c.args.name.now (codes "prepend") (omega arith) (search rules)) (search rules)

pub returns-in-advance : goal.returns-in-advance
returns-in-advance c = rw (text_from_reads c.args.name.now (codes "advance") (omega arith) (search rules)) (search rules)

pub returns-in-115 : goal.returns-in-115
returns-in-115 c = rw (text_from_reads c.args.name.now (codes "split_to") (omega arith) (search rules)) (search rules)

pub returns-in-99 : goal.returns-in-99
returns-in-99 c = rw (text_from_reads c.args.name.now (codes "copy_to_bytes") (omega arith) (search rules)) (search rules)
