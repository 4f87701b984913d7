-- Cutting off the chunks that hold the first bytes.
use Rattle.std.specs.Prelude.{ℕ, suc, ◌+◌, ◌-◌, ◌<◌, cond, List, [], ◌∷◌, length, nat_lt}
use Rattle.iobuf.specs.Values.{Value, advanced, first}

-- the chunks that go to the target: those before the first that is longer than what is still to take, and the piece of that one if it has bytes
abbrev pub fronts : ℕ → List Value → List Value
fronts n [] = []
fronts n (v ∷ vs) = cond (nat_lt n (length v.bytes)) (cond (nat_lt 0 n) (first n v ∷ []) []) (v ∷ fronts (n - length v.bytes) vs)

-- what stays: the chunks before the first that is longer than what is still to take go, that one is advanced, and those behind it stay
abbrev pub rests : ℕ → List Value → List Value
rests n [] = []
rests n (v ∷ vs) = cond (nat_lt n (length v.bytes)) (advanced n v ∷ vs) (rests (n - length v.bytes) vs)

-- the search for n bytes: how many chunks go whole, and how many bytes are still to take where it ends, at the first chunk that is longer than that
abbrev pub cut_at : {A : Type 0} → (A → ℕ) → ℕ → List A → ℕ × ℕ
cut_at size n [] = (0, n)
cut_at size n (x ∷ xs) = cond (nat_lt n (size x)) (0, n) (suc (cut_at size (n - size x) xs).0, (cut_at size (n - size x) xs).1)

-- how many chunks the target gets, when the search ends so: one more for a piece that has bytes
abbrev pub with_piece : ℕ × ℕ → ℕ
with_piece found = cond (nat_lt 0 found.1) (found.0 + 1) found.0

-- how many chunks the target gets, by the sizes of the chunks
abbrev pub share : {A : Type 0} → (A → ℕ) → ℕ → List A → ℕ
share size n xs = with_piece (cut_at size n xs)

-- the first chunk is longer than n, if there is one: so the search ends
abbrev pub Ends : {A : Type 0} → (A → ℕ) → ℕ → List A → Type 0
Ends size n [] = Unit {0}
Ends size n (x ∷ xs) = n < size x
