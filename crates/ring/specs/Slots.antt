-- A list in slots, by plain numbers.
use Rattle.std.specs.Prelude.{◌≡◌, ℕ, ◌-◌, ◌≤◌, List, length}
use Rattle.lists.specs.Rings.{turned}
use Rattle.store.specs.Sizes.{chunk_limit}

-- n elements lie in the slots s from the slot h on; the last part follows from the others, and saves its users a lemma
abbrev pub Lies : {T : Type 0} → List T → ℕ → ℕ → Type 0
Lies s h n = (length s ≤ chunk_limit) × (h ≤ length s - 1) × (n ≤ length s) × (length (turned s h n) ≡ n)
