-- The laws of taking.
use Rattle.std.specs.Prelude.{◌≡◌, ℕ, ◌+◌, ◌≤◌, true, List, [], ◌∷◌, drop}
use Rattle.iobuf.specs.Values.{Value, no_tail}
use Rattle.rules.specs.Chunks.{joined, remaining, kept}

-- each chunk is kept
abbrev pub AllKept : List Value → Type 0
AllKept [] = Unit {0}
AllKept (v ∷ vs) = (kept v ≡ true) × AllKept vs

-- no chunk has a tail
abbrev pub Tailless : List Value → Type 0
Tailless [] = Unit {0}
Tailless (v ∷ vs) = (v.tail ≡ no_tail) × Tailless vs

-- a way of taking n bytes leaves the bytes without the first n, and keeps kept chunks kept
pub record Takes (left : ℕ → List Value → List Value) : Type 0 where
  pub bytes : (n : ℕ) (vs : List Value) → n ≤ remaining vs → joined (left n vs) ≡ drop n (joined vs)
  pub kept : (n : ℕ) (vs : List Value) → AllKept vs → AllKept (left n vs)

-- of chunks without tails, taking m and then n leaves the chunks that taking m + n leaves, whichever way each is done
abbrev pub TakenTogether : (left right both : ℕ → List Value → List Value) → Type 0
TakenTogether left right both = (m n : ℕ) (vs : List Value) → AllKept vs → Tailless vs → m + n ≤ remaining vs → right n (left m vs) ≡ both (m + n) vs
