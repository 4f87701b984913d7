-- Putting chunks in.
use Rattle.std.specs.Prelude.{ℕ, ◌+◌, Bool, cond, List, [], ◌∷◌}
use Rattle.store.specs.Faults.{Case, no_slot}

-- a chunk that comes to `count` others asks for a slot if it is kept, and for nothing else
abbrev pub slot_for : Bool → ℕ → ℕ → List Case
slot_for kept count limit = cond kept (no_slot (count + 1) limit ∷ []) []

-- it makes the list `more` if it is kept; else the list stays
abbrev pub put : {A : Type 0} → Bool → List A → List A → List A
put kept more xs = cond kept more xs
