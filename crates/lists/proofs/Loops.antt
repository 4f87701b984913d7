-- Elements that go one by one from the front of one list behind another.
use Rattle.std.proofs.Common.{◌≡◌, ℕ, ◌+◌, List, [], ◌∷◌, ◌++◌, take, drop, sym, ap, ◌∙◌, add-one}
use Rattle.std.proofs.lemmas.List.{append_assoc}

-- Of the first m elements of xs, the first one goes behind ts, and n are still to go.
module _ {A : Type 0} (m n : ℕ) (xs ys : List A) (x : A) (e : m ≡ n + 1) (f : xs ≡ x ∷ ys) where
  pub one_given : (ts us : List A) → us ≡ ts ++ x ∷ [] → us ++ take n ys ≡ ts ++ take m xs
  one_given ts us h =
      let first : take m xs ≡ x ∷ take n ys = ap (take m) f ∙ ap (λ j. take j (x ∷ ys)) (e ∙ add-one n) in
      ap (λ zs. zs ++ take n ys) h ∙ append_assoc ts (x ∷ []) (take n ys) ∙ ap (λ zs. ts ++ zs) (sym first)

  pub one_gone : drop n ys ≡ drop m xs
  one_gone = sym (ap (drop m) f ∙ ap (λ j. drop j (x ∷ ys)) (e ∙ add-one n))
