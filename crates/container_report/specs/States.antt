-- What a container holds, in words.
use Rattle.std.specs.Prelude.{ℕ, List, ◌++◌, codes, decimal}
use Rattle.report.specs.Outcomes.{bracketed}
use Rattle.container_report.specs.Borders.{row_words}
use Rattle.container_report.specs.declared.state.Contents.{Contents}
use Rattle.container_report.specs.declared.state.Totals.{Totals}

-- how many chunks, how many bytes, and the bytes
abbrev pub contents_words : Contents → List ℕ
contents_words c = codes "chunks " ++ (decimal c.count ++ (codes ", remaining " ++ (decimal c.remaining ++ bracketed (row_words c.chunks))))

-- the capacity, how much of it can be written, and the slots that are free
abbrev pub totals_words : Totals → List ℕ
totals_words t = codes "capacity " ++ (decimal t.capacity ++ (codes ", writable " ++ (decimal t.writable ++ (codes ", slots free " ++ decimal t.free))))
