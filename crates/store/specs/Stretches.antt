-- What the calls of a store answer and leave.
use Rattle.std.specs.Prelude.{ℕ, ◌+◌, ◌-◌, cond, List, Some, None, Ok, Err, Option, Result, nat_le}
use Rattle.lists.specs.Parts.{part}
use Rattle.store.specs.Faults.{fault, no_store_room}
use Rattle.store.specs.Sizes.{store_size}
use Rattle.store.specs.declared.fault.Fault.{Fault}

-- where the next stretch begins, when `used` bytes are given out
abbrev pub start : ℕ → ℕ
start used = used

-- how many bytes lie behind that place
abbrev pub free : ℕ → ℕ
free used = store_size - start used

-- what reserving c bytes answers: where they begin, or that so many are not there
abbrev pub reserved : ℕ → ℕ → Result ℕ Fault
reserved used c = cond (nat_le c (free used)) (Ok (start used)) (Err (fault (no_store_room c (free used))))

-- a look at n bytes: none where they do not lie within the store
abbrev pub viewed : ℕ → ℕ → List ℕ → Option (List ℕ)
viewed place n m = cond (nat_le (place + n) store_size) (Some (part place n m)) None

-- how many bytes a stretch of n bytes takes: none where it does not lie within the store
abbrev pub fitting : ℕ → ℕ → ℕ
fitting place n = cond (nat_le (place + n) store_size) n 0
