-- Sums over chunks, as sums over their values.
use Rattle.std.proofs.Common.{◌≡◌, ℕ, ◌+◌, false, cond, eqb, List, [], ◌∷◌, map, length, sym, refl, ap, ◌∙◌, length-append}
use Rattle.std.specs.List.{sum_by}
use Rattle.std.proofs.lemmas.List.Sums.{sum_by-cons}
use Rattle.iobuf.specs.Values.{Value}
use Rattle.rules.specs.Chunks.{joined, remaining}
use Rattle.rules.specs.Taking.{first_is, front_has}

module _ {K : Type 0} (v : K → Value) (f : K → ℕ) where
  -- the bytes of all chunks, counted
  pub sum_sizes : ((x : K) → length (v x).bytes ≡ f x) → (xs : List K) → sum_by f xs ≡ remaining (map v xs)
  sum_sizes h [] = refl
  sum_sizes h (x ∷ xs) =
      sum_by-cons f x xs ∙ ap (λ n. f x + n) (sum_sizes h xs) ∙ ap (λ n. n + remaining (map v xs)) (sym (h x)) ∙ sym (length-append (v x).bytes (joined (map v xs)))

  -- the front chunk by its size is the front chunk by its bytes
  pub first_is_front : ((x : K) → length (v x).bytes ≡ f x) → (n : ℕ) (xs : List K) → first_is f n xs ≡ front_has n (map v xs)
  first_is_front h n [] = refl
  first_is_front h n (x ∷ xs) = ap (λ i. cond (eqb n 0) false (eqb i n)) (sym (h x))
