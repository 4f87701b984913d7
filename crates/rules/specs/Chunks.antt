-- A list of chunks, over their values.
use Rattle.std.specs.Prelude.{ℕ, ◌+◌, Bool, List, [], ◌∷◌, ◌++◌, length, nat_lt, sum_by}
use Rattle.iobuf.specs.Values.{Value}

-- the bytes of all chunks, one after another
abbrev pub joined : List Value → List ℕ
joined [] = []
joined (v ∷ vs) = v.bytes ++ joined vs

-- how many bytes they have in all
abbrev pub remaining : List Value → ℕ
remaining vs = length (joined vs)

-- how many bytes a chunk could hold
abbrev pub capacity_of : Value → ℕ
capacity_of v = length v.bytes + v.tail.count

-- how many they could hold in all
abbrev pub capacity : List Value → ℕ
capacity vs = sum_by capacity_of vs

-- how many more could be written
abbrev pub writable : List Value → ℕ
writable vs = sum_by (λ v. v.tail.count) vs

-- a chunk is kept exactly when its capacity is above 0
abbrev pub kept : Value → Bool
kept v = nat_lt 0 (capacity_of v)
