-- What an accepted call handed out, in words.
use Rattle.std.specs.Prelude.{ℕ, List, ◌++◌, length, codes, decimal}
use Rattle.report.specs.Hex.{hex_of}
use Rattle.report.specs.Outcomes.{bracketed}
use Rattle.container_report.specs.Borders.{row_words}
use Rattle.container_report.specs.declared.border.Bordered.{Bordered}

-- how many bytes were handed out, and which, with the borders of their chunks
abbrev pub handed_words : Bordered → List ℕ
handed_words b = codes "accepted, handed out " ++ (decimal (length b.bytes.now) ++ bracketed (row_words b))

-- how many bytes were copied out, and which
abbrev pub copied_words : List ℕ → List ℕ
copied_words bytes = codes "accepted, copied " ++ (decimal (length bytes) ++ bracketed (hex_of bytes))
