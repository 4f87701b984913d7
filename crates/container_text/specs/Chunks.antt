-- Chunks as words.
use Rattle.std.specs.Prelude.{ℕ, cond, ◌&&◌, List, length, take, drop, Some, None, Option, ◌==◌, nat_lt, slice_index}
use Rattle.text.specs.Numbers.{byte_of, decimal_of}
use Rattle.container_text.specs.declared.chunks.Spelled.{Spelled}

-- a chunk by its byte and its count
abbrev pub spelled : Option ℕ → Option ℕ → Option Spelled
spelled None n = None
spelled (Some b) None = None
spelled (Some b) (Some n) = Some (record { byte = b; count = n })

-- the byte of a chunk: just two hexadecimal digits and an `x`
abbrev pub marked_byte : List ℕ → Option ℕ
marked_byte front = cond (length front == 3 && slice_index front 2 == 120) (byte_of (take 2 front)) None

-- the chunk that a word writes: its byte in the first three places, and its count in decimal digits behind them
abbrev pub chunk_of : List ℕ → Option Spelled
chunk_of word = cond (nat_lt (length word) 3) None (spelled (marked_byte (take 3 word)) (decimal_of (drop 3 word)))
