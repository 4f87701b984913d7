-- A decimal number, read digit by digit.
use Rattle.std.proofs.Common.{◌≡◌, ℕ, ◌+◌, ◌-◌, ◌*◌, ◌^◌, ◌<◌, ◌≤◌, cond, ◌&&◌, ltb, List, [], ◌∷◌, length, get_or, drop, Some, None, fold, Option, sym, ◌∙◌, arith}
use Rattle.std.specs.Str.{all_ascii_digits}
use Rattle.std.proofs.lemmas.List.{at_drop_more}
use Rattle.std.proofs.lemmas.Bool.{cond-false, and_right, le-ltb}

-- the number of the digits that were read, n, with those to come behind them
abbrev value_on : ℕ → List ℕ → ℕ
value_on n digits = fold (λ v b. v * 10 + (b - 48)) n digits

value_on_ge : (n : ℕ) (digits : List ℕ) → n ≤ value_on n digits
value_on_ge n [] = omega arith
value_on_ge n (b ∷ bs) = omega (arith, value_on_ge (n * 10 + (b - 48)) bs)

abbrev number_on : ℕ → List ℕ → Option ℕ
number_on n word = cond (all_ascii_digits word && ltb (value_on n word) (2 ^ 64)) (Some (value_on n word)) None

-- the first i bytes of the word were read as n, and `all` is what the whole word comes to
pub record SoFar (word : List ℕ) (i n : ℕ) (all : Option ℕ) : Type 0 where
  pub left : number_on n (drop i word) ≡ all
  pub small : n < 2 ^ 64

-- a number that is too large stays so, whatever is still to come
pub on_large : {word : List ℕ} {i n : ℕ} {all : Option ℕ} → SoFar word i n all → i < length word → 2 ^ 64 ≤ n * 10 + (get_or word i 0 - 48) → None ≡ all
on_large {word} {i} {n} so_far h large =
    let m = n * 10 + (get_or word i 0 - 48) in
    let over = le-ltb (value_on m (drop (i + 1) word)) (2 ^ 64) (omega (arith, value_on_ge m (drop (i + 1) word))) in
    sym (cond-false _ _ _ (and_right _ _ over)) ∙ sym (at_drop_more (number_on n) word i 0 h) ∙ so_far.left
