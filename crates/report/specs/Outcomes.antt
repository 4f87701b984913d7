-- What a call did, in words.
use Rattle.std.specs.Prelude.{ℕ, List, ◌++◌, length, codes, decimal}
use Rattle.report.specs.Hex.{hex_of}

-- text in brackets
abbrev pub bracketed : List ℕ → List ℕ
bracketed text = codes " [" ++ (text ++ codes "]")

-- an accepted call, with how many bytes it handed out, and which
abbrev pub accepted_words : List ℕ → List ℕ
accepted_words bytes = codes "accepted, handed out " ++ (decimal (length bytes) ++ bracketed (hex_of bytes))

-- how many bytes a chunk holds, how many it could hold, and the bytes
abbrev pub holds_words : List ℕ → ℕ → List ℕ
holds_words bytes capacity = codes "remaining " ++ (decimal (length bytes) ++ (codes ", capacity " ++ (decimal capacity ++ bracketed (hex_of bytes))))
