use Rattle.std.proofs.Common.{rules}
use Rattle.text.specs.Lines.{named}
use Rattle.text.proofs.Named.{read_named}
use Rattle.text.proofs.lines.read_call.Goals as goal

pub returns-in-Some : goal.returns-in-Some
returns-in-Some c = rw (read_named named c.args.line.now c.in-Some.name.now c.in-Some.rest.now (search rules)) (search rules)
