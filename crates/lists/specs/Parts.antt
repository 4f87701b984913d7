-- Parts of a list, and bytes written over others.
use Rattle.std.specs.Prelude.{ℕ, ◌+◌, ◌-◌, List, ◌++◌, length, take, drop}

-- the n elements from `place` on
abbrev pub part : ℕ → ℕ → List ℕ → List ℕ
part place n m = take n (drop place m)

-- the list m with s written over it from `place` on
unfoldable pub laid : ℕ → List ℕ → List ℕ → List ℕ
laid place s m = take place m ++ (s ++ drop (place + length s) m)

-- the same, as far as m reaches
abbrev pub poured : ℕ → List ℕ → List ℕ → List ℕ
poured place s m = laid place (take (length m - place) s) m
