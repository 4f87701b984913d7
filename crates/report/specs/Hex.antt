-- Bytes as hexadecimal digits.
use Rattle.std.specs.Prelude.{ℕ, ◌/◌, ◌%◌, List, [], ◌∷◌, ◌++◌}
use Rattle.std.specs.List.{flat_map}
use Rattle.std.specs.Char.{digit_char}

-- a byte as two lowercase hexadecimal digits
abbrev pub pair : ℕ → List ℕ
pair b = digit_char (b / 16) ∷ digit_char (b % 16) ∷ []

-- bytes as two digits each, with a blank between each two bytes
abbrev pub hex_of : List ℕ → List ℕ
hex_of [] = []
hex_of (b ∷ bs) = pair b ++ flat_map (λ c. 32 ∷ pair c) bs
