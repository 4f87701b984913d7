-- A list that lies in a ring of slots.
use Rattle.std.specs.Prelude.{◌≡◌, ℕ, ◌+◌, ◌<◌, ◌⊎◌, List, ◌++◌, take, drop}

-- all the slots s, from the slot h on, around the end
unfoldable pub round : {T : Type 0} → List T → ℕ → List T
round s h = drop h s ++ take h s

-- the first n of them
abbrev pub turned : {T : Type 0} → List T → ℕ → ℕ → List T
turned s h n = take n (round s h)

-- i is the slot that is k on from the slot h, around the end of m slots
abbrev pub Place : ℕ → ℕ → ℕ → ℕ → Type 0
Place m h k i = (i < m) × ((h + k ≡ i) ⊎ (h + k ≡ i + m))
