-- What a chunk is worth in a store: its bytes, and the writable bytes that lie behind them.
use Rattle.std.specs.Prelude.{◌≡◌, ℕ, ◌≤◌, List, ◌++◌, length, take, drop}
use Rattle.store.specs.declared.space.Store.{Store}

-- the writable bytes of a chunk: where in the store they begin, and how many they are
pub record Tail : Type 0 where
  pub at : ℕ
  pub count : ℕ

-- what a chunk is worth: the bytes that can be read, and the tail
pub record Value : Type 0 where
  pub bytes : List ℕ
  pub tail : Tail

-- nothing writable
abbrev pub no_tail : Tail
no_tail = record { at = 0; count = 0 }

-- bytes with nothing writable behind them
abbrev pub flat : List ℕ → Value
flat bs = record { bytes = bs; tail = no_tail }

-- without the first n bytes; the tail stays where it is
abbrev pub advanced : ℕ → Value → Value
advanced n v = record { bytes = drop n v.bytes; tail = v.tail }

-- the first n bytes alone
abbrev pub first : ℕ → Value → Value
first n v = flat (take n v.bytes)

-- the bytes bs over the front of an output, as far as both reach
abbrev pub over : List ℕ → List ℕ → List ℕ
over bs out = take (length out) bs ++ drop (length bs) out

-- `advance` of n turned x into y
pub record Advanced {K : Type 0} (value : Store → K → Value) (size : K → ℕ) (n : ℕ) (x y : K) : Type 0 where
  pub within : n ≤ size x
  pub left : (s : Store) → value s y ≡ advanced n (value s x)

-- `write_out` of n of the bytes bs turned the output from `was` into `is`
pub record Written (n : ℕ) (bs was is : List ℕ) : Type 0 where
  pub within : n ≤ length bs
  pub fits : n ≤ length was
  pub after : is ≡ take n bs ++ drop n was

-- `cut` of n handed out r of x, and left y
pub record Cut {K : Type 0} (value : Store → K → Value) (size : K → ℕ) (tail : K → Tail) (n : ℕ) (x r y : K) : Type 0 where
  pub within : n ≤ size x
  pub front : (s : Store) → value s r ≡ first n (value s x)
  pub left : (s : Store) → value s y ≡ advanced n (value s x)
  pub tailless : (tail r ≡ no_tail) × (tail y ≡ no_tail)
