-- A ring as the list that it holds.
use Rattle.std.specs.Prelude.{ℕ, List, length, slice_set}
use Rattle.lists.specs.Rings.{turned}
use Rattle.ring.specs.declared.Ring.{Ring}

-- the list that a ring holds
abbrev pub items : {T : Type 0} → Ring T → List T
items r = turned r.slots.now r.head r.len

-- how many elements it can hold
abbrev pub limit : {T : Type 0} → Ring T → ℕ
limit r = length r.slots.now

-- its slots, with x in the slot of the first element
abbrev pub first_slot : {T : Type 0} → Ring T → T → List T
first_slot r x = slice_set r.slots.now r.head x
