-- The bytes of chunks, counted by what is left over.
use Rattle.std.proofs.Common.{◌≡◌, ℕ, ◌+◌, ◌-◌, ◌≤◌, List, [], ◌∷◌, length, sum_by, take, drop, fold, length-take, length-drop, take_all, arith}
use Rattle.std.proofs.lemmas.List.Sums.{sum_by-cons}
use Rattle.container_report.specs.Borders.{cut_up}

-- how many of n bytes are left over behind chunks of these sizes
abbrev pub left_behind : List ℕ → ℕ → ℕ
left_behind sizes n = fold (λ left size. left - size) n sizes

-- each byte is a chunk's, or left over
all_counted : (sizes bytes : List ℕ) → sum_by length (cut_up sizes bytes) + left_behind sizes (length bytes) ≡ length bytes
all_counted [] bytes = omega arith
all_counted (n ∷ ns) bytes =
    let behind = all_counted ns (drop n bytes) in
    let rest = rw (length-drop n bytes) at behind in
    rw (sum_by-cons length (take n bytes) (cut_up ns (drop n bytes))) (omega (arith, length-take n bytes, rest))

-- the same, said of the first sizes, where these are all
pub whole_counted : (sizes bytes : List ℕ) (i : ℕ) → length sizes ≤ i → sum_by length (cut_up sizes bytes) + left_behind (take i sizes) (length bytes) ≡ length bytes
whole_counted sizes bytes i past = rw (take_all i sizes past) (all_counted sizes bytes)
