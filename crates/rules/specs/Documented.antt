-- What the public documentation of `bytes::Buf` says of reading: a buffer is bytes with a cursor in them.
use Rattle.std.specs.Prelude.{◌≡◌, ℕ, ◌+◌, List, length, take, drop}

-- a buffer, and how many of its bytes have been read
pub record Cursor : Type 0 where
  pub bytes : List ℕ
  pub at : ℕ

-- the bytes between the cursor and the end; `remaining` is how many they are
abbrev pub ahead : Cursor → List ℕ
ahead c = drop c.at c.bytes

-- the cursor n bytes on
abbrev pub moved : ℕ → Cursor → Cursor
moved n c = record { bytes = c.bytes; at = c.at + n }

-- `advance` of n, where the bytes ahead were `before` and then are `after`: the cursor moves on by the count, what remains falls by it, and a count of 0 is no change
pub record Advances (n : ℕ) (before after : List ℕ) : Type 0 where
  pub moves : (c : Cursor) → ahead c ≡ before → ahead (moved n c) ≡ after
  pub falls : length after + n ≡ length before
  pub nothing : n ≡ 0 → after ≡ before

-- `copy_to_bytes` of n: the same, and what is handed out are the next n bytes
pub record Consumes (n : ℕ) (before after handed : List ℕ) : Type 0 where
  pub advances : Advances n before after
  pub next : handed ≡ take n before
