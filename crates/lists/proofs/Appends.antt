-- The first elements of two lists together, and those behind them.
use Rattle.std.proofs.Common.{◌≡◌, ℕ, ◌+◌, ◌-◌, ◌≤◌, List, ◌++◌, length, take, drop, sym, ap, ◌∙◌, inl, inr, arith}
use lib.Seq.{drop-append-add, take-append-add}
use Rattle.std.proofs.lemmas.List.{append-nil, drop_all, drop-append-le, take_all, take-append-le}
use Rattle.std.proofs.lemmas.Bool.{cases_lt}

-- taking past the end of the first list goes on in the second
pub take_past : (n : ℕ) (xs ys : List ℕ) → length xs ≤ n → take n (xs ++ ys) ≡ xs ++ take (n - length xs) ys
take_past n xs ys h =
    let e : n ≡ length xs + (n - length xs) = omega arith in
    ap (λ k. take k (xs ++ ys)) e ∙ take-append-add xs ys (n - length xs)

-- dropping past the end of the first list goes on in the second
pub drop_past : (n : ℕ) (xs ys : List ℕ) → length xs ≤ n → drop n (xs ++ ys) ≡ drop (n - length xs) ys
drop_past n xs ys h =
    let e : n ≡ length xs + (n - length xs) = omega arith in
    ap (λ k. drop k (xs ++ ys)) e ∙ drop-append-add xs ys (n - length xs)

pub drop_append : (n : ℕ) (xs ys : List ℕ) → drop n (xs ++ ys) ≡ drop n xs ++ drop (n - length xs) ys
drop_append n xs ys =
    elim (cases_lt n (length xs)) [
      | inl lt ↦ let z : n - length xs ≡ 0 = omega arith in drop-append-le n xs ys (omega arith) ∙ ap (λ k. drop n xs ++ drop k ys) (sym z)
      | inr le ↦ drop_past n xs ys le ∙ ap (λ bs. bs ++ drop (n - length xs) ys) (sym (drop_all n xs le))
    ]

pub take_append : (n : ℕ) (xs ys : List ℕ) → take n (xs ++ ys) ≡ take n xs ++ take (n - length xs) ys
take_append n xs ys =
    elim (cases_lt n (length xs)) [
      | inl lt ↦ let z : n - length xs ≡ 0 = omega arith in take-append-le n xs ys (omega arith) ∙ sym (ap (λ k. take n xs ++ take k ys) z ∙ append-nil (take n xs))
      | inr le ↦ take_past n xs ys le ∙ ap (λ bs. bs ++ take (n - length xs) ys) (sym (take_all n xs le))
    ]
