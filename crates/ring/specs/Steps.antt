-- What a step on the slots does to the list that lies in them, however long that is.
-- Before the step the list begins in the slot h of the slots s, and after it in the slot h' of s'.
use Rattle.std.specs.Prelude.{◌≡◌, ℕ, ◌+◌, ◌-◌, ◌<◌, List, [], ◌∷◌, ◌++◌, length, slice_index_or, slice_set}
use Rattle.lists.specs.Rings.{turned}
use Rattle.ring.specs.Slots.{Lies}

-- y is element i
abbrev pub Read : {T : Type 0} → List T → ℕ → ℕ → T → Type 0
Read s h i y = (n : ℕ) → Lies s h n → i < length (turned s h n) → y ≡ slice_index_or (turned s h n) i y

-- x stands in the place of element i
abbrev pub Replaced : {T : Type 0} → List T → ℕ → ℕ → T → List T → Type 0
Replaced s h i x s' = (n : ℕ) → Lies s h n → i < length (turned s h n) → (turned s' h n ≡ slice_set (turned s h n) i x) × Lies s' h n

-- x stands behind the last of n elements
abbrev pub Behind : {T : Type 0} → List T → ℕ → ℕ → T → List T → Type 0
Behind s h n x s' = (turned s' h (n + 1) ≡ turned s h n ++ x ∷ []) × Lies s' h (n + 1)

-- x stands before the first element
abbrev pub Before : {T : Type 0} → List T → ℕ → T → List T → ℕ → Type 0
Before s h x s' h' = (n : ℕ) → Lies s h n → length (turned s h n) < length s → (turned s' h' (n + 1) ≡ x ∷ turned s h n) × Lies s' h' (n + 1)

-- y, which was the first element, is gone
abbrev pub Popped : {T : Type 0} → List T → ℕ → T → List T → ℕ → Type 0
Popped s h y s' h' = (n : ℕ) → Lies s h n → 0 < length (turned s h n) → (turned s h n ≡ y ∷ turned s' h' (n - 1)) × Lies s' h' (n - 1)
