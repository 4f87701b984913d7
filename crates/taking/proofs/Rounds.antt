-- One turn of a loop that takes bytes from the front of a list of chunks.
use Rattle.std.proofs.Common.{◌≡◌, ℕ, ◌+◌, ◌-◌, ◌<◌, ◌≤◌, min, Bool, true, false, ltb, List, [], ◌∷◌, ◌++◌, map, length, take, drop, Ok, Err, Result, sym, refl, ap, ◌∙◌, ⊎_elim, add-one, arith, MatchResult}
use Rattle.std.proofs.lemmas.List.{append_assoc, drop_all, take-append-le, drop-append-le, map-append}
use Rattle.std.proofs.lemmas.Bool.{cond-true, cond-false, cases_lt}
use Rattle.std.specs.List.{sum_by}
use Rattle.iobuf.specs.Values.{Value, Tail, advanced}
use Rattle.rules.specs.Chunks.{kept}
use Rattle.rules.specs.Taking.{left_in, fronts_dropped}
use Rattle.rules.specs.declared.form.Form.TheVariants.{Small}

-- a call that cannot be refused
pub surely : {T E : Type 0} (r : Result T E) {P : Type 0} {Q : E → Type 0} → MatchResult r (λ _. P) Q → ((e : E) → Q e → ⊥) → P
surely (Ok x) p q = p
surely (Err e) p q = absurd (q e p)

-- what the numbers of a chunk tell: whether it is kept, in every store
pub kept_is : (v : Value) (size : ℕ) (t : Tail) (r : Bool) → length v.bytes ≡ size → v.tail ≡ t → r ≡ ltb 0 (size + t.count) → kept v ≡ r
kept_is v size t r e f a = ap (λ n. ltb 0 (n + v.tail.count)) e ∙ ap (λ (u : Tail). ltb 0 (size + u.count)) f ∙ sym a

-- dropping more than there is
advanced_min : (n : ℕ) (v : Value) → advanced (min n (length v.bytes)) v ≡ advanced n v
advanced_min n v = ap (λ bs. record { bytes = bs; tail = v.tail }) (dropped v.bytes)
  where
    dropped : (bs : List ℕ) → drop (min n (length bs)) bs ≡ drop n bs
    dropped bs =
        ⊎_elim
        (λ h. let e : min n (length bs) ≡ length bs = omega arith in ap (λ i. drop i bs) e ∙ drop_all (length bs) bs (omega arith) ∙ sym (drop_all n bs (omega arith)))
        (λ h. let e : min n (length bs) ≡ n = omega arith in ap (λ i. drop i bs) e)
        (cases_lt (length bs) n)

abbrev few : ℕ → List Value → List Value
few n vs = left_in Small n vs

module _ {K : Type 0} (v : K → Value) where
  -- m chunks are still to go round, and those that came back stand behind them
  abbrev pub rotated : ℕ → ℕ → List K → List Value
  rotated m left xs = map v (drop m xs) ++ few left (map v (take m xs))

  next_round : (m left : ℕ) (xs ys : List K) (x : K) → xs ≡ x ∷ ys → rotated (m + 1) left xs ≡ map v (drop m ys) ++ few left (v x ∷ map v (take m ys))
  next_round m left xs ys x p = ap (rotated (m + 1) left) p ∙ ap (λ j. rotated j left (x ∷ ys)) (add-one m)

  -- a chunk comes back
  pub rotate_keep : (m n left k : ℕ) (xs ys zs : List K) (x y : K) → n ≡ m + 1 → xs ≡ x ∷ ys → zs ≡ ys ++ y ∷ [] → m ≤ length ys → k ≡ min left (length (v x).bytes) → v y ≡ advanced k (v x) → kept (v y) ≡ true
      → rotated m (left - k) zs ≡ rotated n left xs
  rotate_keep m n left k xs ys zs x y j p q h e a t =
      let f : v y ≡ advanced left (v x) = a ∙ ap (λ i. advanced i (v x)) e ∙ advanced_min left (v x) in
      let u : left - k ≡ left - length (v x).bytes = omega arith in
      let rest = few (left - length (v x).bytes) (map v (take m ys)) in
      let d : map v (drop m zs) ≡ map v (drop m ys) ++ v y ∷ [] = ap (λ ws. map v (drop m ws)) q ∙ ap (map v) (drop-append-le m ys (y ∷ []) h) ∙ map-append v (drop m ys) (y ∷ []) in
      let w : few (left - k) (map v (take m zs)) ≡ rest = ap (λ ws. few (left - k) (map v (take m ws))) q ∙ ap (λ ws. few (left - k) (map v ws)) (take-append-le m ys (y ∷ []) h) ∙ ap (λ i. few i (map v (take m ys))) u in
      let one : few left (v x ∷ map v (take m ys)) ≡ v y ∷ rest = cond-true (kept (advanced left (v x))) (advanced left (v x) ∷ rest) rest (ap kept (sym f) ∙ t) ∙ ap (λ z. z ∷ rest) (sym f) in
      ap (λ ws. ws ++ few (left - k) (map v (take m zs))) d ∙ ap (λ ws. (map v (drop m ys) ++ v y ∷ []) ++ ws) w
      ∙ append_assoc (map v (drop m ys)) (v y ∷ []) rest ∙ ap (λ ws. map v (drop m ys) ++ ws) (sym one)
      ∙ sym (next_round m left xs ys x p) ∙ ap (λ i. rotated i left xs) (sym j)

  -- a chunk is dropped
  pub rotate_drop : (m n left k : ℕ) (xs ys : List K) (x y : K) → n ≡ m + 1 → xs ≡ x ∷ ys → k ≡ min left (length (v x).bytes) → v y ≡ advanced k (v x) → kept (v y) ≡ false
      → rotated m (left - k) ys ≡ rotated n left xs
  rotate_drop m n left k xs ys x y j p e a t =
      let f : v y ≡ advanced left (v x) = a ∙ ap (λ i. advanced i (v x)) e ∙ advanced_min left (v x) in
      let u : left - k ≡ left - length (v x).bytes = omega arith in
      let rest = few (left - length (v x).bytes) (map v (take m ys)) in
      let one : few left (v x ∷ map v (take m ys)) ≡ rest = cond-false (kept (advanced left (v x))) (advanced left (v x) ∷ rest) rest (ap kept (sym f) ∙ t) in
      ap (λ i. map v (drop m ys) ++ few i (map v (take m ys))) u ∙ ap (λ ws. map v (drop m ys) ++ ws) (sym one)
      ∙ sym (next_round m left xs ys x p) ∙ ap (λ i. rotated i left xs) (sym j)

pub sum_some : {K : Type 0} (f : K → ℕ) (xs : List K) → 0 < sum_by f xs → 0 < length xs
sum_some f [] h = h
sum_some f (x ∷ xs) h = omega arith

pub fronts_none : (vs : List Value) → fronts_dropped 0 vs ≡ vs
fronts_none [] = refl
fronts_none (v ∷ vs) = refl
