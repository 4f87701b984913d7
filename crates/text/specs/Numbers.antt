-- Numbers as words.
use Rattle.std.specs.Prelude.{ℕ, ◌+◌, ◌-◌, ◌*◌, ◌^◌, cond, ◌&&◌, List, length, Some, None, fold, Option, ◌==◌, nat_lt, slice_index}
use Rattle.std.specs.Int.{is_in_range}
use Rattle.std.specs.Str.{all_ascii_digits}

-- the value of a hexadecimal digit: 0 to 9, a to f or A to F
abbrev pub digit_of : ℕ → Option ℕ
digit_of b = cond (is_in_range 48 57 b) (Some (b - 48)) (cond (is_in_range 97 102 b) (Some (b - 87)) (cond (is_in_range 65 70 b) (Some (b - 55)) None))

-- the value of two hexadecimal digits, the high one first
abbrev pub paired : Option ℕ → Option ℕ → Option ℕ
paired None low = None
paired (Some high) None = None
paired (Some high) (Some low) = Some (16 * high + low)

-- the byte that a word writes: just two hexadecimal digits
abbrev pub byte_of : List ℕ → Option ℕ
byte_of word = cond (length word == 2) (paired (digit_of (slice_index word 0)) (digit_of (slice_index word 1))) None

-- the number that decimal digits write
abbrev pub value_of : List ℕ → ℕ
value_of digits = fold (λ n b. n * 10 + (b - 48)) 0 digits

-- the number that a word writes: at least one digit, digits only, and below 2 ^ 64
abbrev pub decimal_of : List ℕ → Option ℕ
decimal_of word = cond (nat_lt 0 (length word) && (all_ascii_digits word && nat_lt (value_of word) (2 ^ 64))) (Some (value_of word)) None
