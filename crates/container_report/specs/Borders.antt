-- Chunks as hexadecimal digits, with their borders.
use Rattle.std.specs.Prelude.{ℕ, List, [], ◌∷◌, ◌++◌, take, drop, codes}
use Rattle.std.specs.List.{flat_map}
use Rattle.report.specs.Hex.{hex_of}
use Rattle.container_report.specs.declared.border.Bordered.{Bordered}

-- bytes cut up into chunks of these sizes; the last have fewer where bytes are wanting, and what is left over is left out
abbrev pub cut_up : List ℕ → List ℕ → List (List ℕ)
cut_up [] bytes = []
cut_up (n ∷ ns) bytes = take n bytes ∷ cut_up ns (drop n bytes)

-- the bytes of each chunk
abbrev pub bytes_of : Bordered → List (List ℕ)
bytes_of b = cut_up b.sizes.now b.bytes.now

-- a chunk behind another: a border, and its bytes
abbrev pub behind_border : List ℕ → List ℕ
behind_border chunk = codes " | " ++ hex_of chunk

-- chunks as their bytes, with a border between each two chunks
abbrev pub bordered : List (List ℕ) → List ℕ
bordered [] = []
bordered (chunk ∷ chunks) = hex_of chunk ++ flat_map behind_border chunks

-- the bytes of chunks of given sizes, with borders
abbrev pub row_words : Bordered → List ℕ
row_words b = bordered (cut_up b.sizes.now b.bytes.now)
