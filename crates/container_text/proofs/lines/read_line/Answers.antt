use Rattle.std.proofs.Common.{Some, rules}
use Rattle.std.specs.Option.{option_map}
use Rattle.text.proofs.Named.{read_named}
use Rattle.container_text.specs.Lines.{spoken, spoken_as, Reads}
use Rattle.container_text.proofs.Read.{reads_map}
use Rattle.container_text.proofs.lines.read_line.Goals as goal

pub returns-in-Some : goal.returns-in-Some
returns-in-Some c =
    let name = c.in-Some.name.now in
    let rest = c.in-Some.rest.now in
    let said : Reads spoken c.line_named.result (spoken_as name rest) = search rules in
    rw (read_named spoken_as c.args.line.now name rest (search rules)) (reads_map spoken (option_map spoken) (λ y. Some y) (λ x v k. search rules) _ _ said _ c.map.ensures.cases)
