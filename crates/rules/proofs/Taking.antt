-- The laws of taking, for every list of chunks.
use Rattle.std.proofs.Common.{◌≡◌, ℕ, ◌+◌, ◌-◌, ◌<◌, true, false, cond, eqb, ltb, List, [], ◌∷◌, ◌++◌, length, drop, filter, sym, refl, ap, ◌∙◌, ⊎_elim, arith}
use Rattle.std.proofs.lemmas.List.{length-drop, drop_all, drop-append-le, drop_at, drop-drop, nil_from_length}
use Rattle.std.proofs.lemmas.Bool.{cond_both, cond-true, cond-false, ltb-true, ltb-false, lt-ltb, le-ltb, eqb-true, cases_lt, false≢true}
use Rattle.iobuf.specs.Values.{Value, Tail, advanced, no_tail}
use Rattle.rules.specs.declared.form.Form.{Form}
use Rattle.rules.specs.declared.form.Form.TheVariants.{One, Small, Many}
use Rattle.rules.specs.Chunks.{joined, capacity_of, kept}
use Rattle.rules.specs.Laws.{AllKept, Tailless, Takes, TakenTogether}
use Rattle.rules.specs.Taking.{form_of, each_advanced, fronts_dropped, left_in, left_after, front_has, left_after_copy}
use Rattle.rules.specs.Splitting.{rests}
use Rattle.lists.proofs.Appends.{drop_past, drop_append}

-- a chunk that is not kept has no bytes
pub unkept_empty : (v : Value) → kept v ≡ false → v.bytes ≡ []
unkept_empty v e = nil_from_length v.bytes (omega (arith, ltb-false 0 (capacity_of v) e))

pub kept_some : (v : Value) → 0 < length v.bytes → kept v ≡ true
kept_some v h = lt-ltb 0 (capacity_of v) (omega arith)

pub joined_kept : (vs : List Value) → joined (filter kept vs) ≡ joined vs
joined_kept [] = refl
joined_kept (v ∷ vs) =
    cond_both (kept v) (v ∷ filter kept vs) (filter kept vs) (λ ws. joined ws ≡ v.bytes ++ joined vs)
    (λ _. ap (λ bs. v.bytes ++ bs) (joined_kept vs))
    (λ e. joined_kept vs ∙ ap (λ bs. bs ++ joined vs) (sym (unkept_empty v e)))

joined_each : (n : ℕ) (vs : List Value) → joined (each_advanced n vs) ≡ drop n (joined vs)
joined_each n [] = sym (drop_all n [] (omega arith))
joined_each n (v ∷ vs) = ap (λ bs. drop n v.bytes ++ bs) (joined_each (n - length v.bytes) vs) ∙ sym (drop_append n v.bytes (joined vs))

joined_fronts : (n : ℕ) (vs : List Value) → joined (fronts_dropped n vs) ≡ drop n (joined vs)
joined_fronts n [] = sym (drop_all n [] (omega arith))
joined_fronts n (v ∷ vs) =
    cond_both (eqb n 0) (v ∷ vs) _ (λ ws. joined ws ≡ drop n (v.bytes ++ joined vs))
    (λ e. sym (ap (λ k. drop k (v.bytes ++ joined vs)) (eqb-true n 0 e)))
    (λ _. cond_both (ltb n (length v.bytes)) (advanced n v ∷ vs) (fronts_dropped (n - length v.bytes) vs) (λ ws. joined ws ≡ drop n (v.bytes ++ joined vs))
    (λ e. let h = ltb-true n (length v.bytes) e in sym (drop-append-le n v.bytes (joined vs) (omega arith)))
    (λ e. joined_fronts (n - length v.bytes) vs ∙ sym (drop_past n v.bytes (joined vs) (ltb-false n (length v.bytes) e))))

joined_in : (f : Form) (n : ℕ) (vs : List Value) → joined (left_in f n vs) ≡ drop n (joined vs)
joined_in One n vs = joined_kept (each_advanced n vs) ∙ joined_each n vs
joined_in Small n vs = joined_kept (each_advanced n vs) ∙ joined_each n vs
joined_in Many n vs = joined_fronts n vs

pub joined_left : (n : ℕ) (vs : List Value) → joined (left_after n vs) ≡ drop n (joined vs)
joined_left n vs =
    cond_both (eqb n 0) vs (left_in (form_of (length vs)) n vs) (λ ws. joined ws ≡ drop n (joined vs))
    (λ e. sym (ap (λ k. drop k (joined vs)) (eqb-true n 0 e)))
    (λ _. joined_in (form_of (length vs)) n vs)

pub all_kept_by : (vs : List Value) → AllKept (filter kept vs)
all_kept_by [] = tt
all_kept_by (v ∷ vs) = cond_both (kept v) (v ∷ filter kept vs) (filter kept vs) AllKept (λ e. (e, all_kept_by vs)) (λ _. all_kept_by vs)

kept_fronts : (n : ℕ) (vs : List Value) → AllKept vs → AllKept (fronts_dropped n vs)
kept_fronts n [] a = a
kept_fronts n (v ∷ vs) a =
    cond_both (eqb n 0) (v ∷ vs) _ AllKept (λ _. a)
    (λ _. cond_both (ltb n (length v.bytes)) (advanced n v ∷ vs) (fronts_dropped (n - length v.bytes) vs) AllKept
    (λ e. (kept_some (advanced n v) (omega (arith, ltb-true n (length v.bytes) e, length-drop n v.bytes)), a.1))
    (λ _. kept_fronts (n - length v.bytes) vs a.1))

kept_in : (f : Form) (n : ℕ) (vs : List Value) → AllKept vs → AllKept (left_in f n vs)
kept_in One n vs a = all_kept_by (each_advanced n vs)
kept_in Small n vs a = all_kept_by (each_advanced n vs)
kept_in Many n vs a = kept_fronts n vs a

kept_left : (n : ℕ) (vs : List Value) → AllKept vs → AllKept (left_after n vs)
kept_left n vs a = cond_both (eqb n 0) vs (left_in (form_of (length vs)) n vs) AllKept (λ _. a) (λ _. kept_in (form_of (length vs)) n vs a)

pub takes_advance : Takes left_after
takes_advance = record { bytes = λ n vs h. joined_left n vs; kept = kept_left }

-- where the front chunk goes whole, it has just the bytes that are taken
front_bytes : (n : ℕ) (v : Value) (vs : List Value) → front_has n (v ∷ vs) ≡ true → length v.bytes ≡ n
front_bytes n v vs =
    cond_both (eqb n 0) false (eqb (length v.bytes) n) (λ b. b ≡ true → length v.bytes ≡ n)
    (λ _ z. absurd (false≢true z))
    (λ _ z. eqb-true (length v.bytes) n z)

joined_front : (n : ℕ) (vs : List Value) → front_has n vs ≡ true → joined (drop 1 vs) ≡ drop n (joined vs)
joined_front n [] e = absurd (false≢true e)
joined_front n (v ∷ vs) e = sym (drop_at v.bytes (joined vs) n (front_bytes n v vs e))

kept_rest : (vs : List Value) → AllKept vs → AllKept (drop 1 vs)
kept_rest [] a = a
kept_rest (v ∷ vs) a = a.1

pub takes_copy : Takes left_after_copy
takes_copy = record {
  bytes = λ n vs h. cond_both (front_has n vs) (drop 1 vs) (left_after n vs) (λ ws. joined ws ≡ drop n (joined vs)) (λ e. joined_front n vs e) (λ _. joined_left n vs);
  kept = λ n vs a. cond_both (front_has n vs) (drop 1 vs) (left_after n vs) AllKept (λ _. kept_rest vs a) (λ _. kept_left n vs a);
}

-- each chunk has bytes, and nothing behind them
abbrev pub Plain : List Value → Type 0
Plain [] = Unit {0}
Plain (v ∷ vs) = (0 < length v.bytes) × (v.tail ≡ no_tail) × Plain vs

pub plain : (vs : List Value) → AllKept vs → Tailless vs → Plain vs
plain [] a t = tt
plain (v ∷ vs) (k, a) (e, t) = (omega (arith, ltb-true 0 (capacity_of v) k, ap (λ (u : Tail). u.count) e), e, plain vs a t)

rests_none : (vs : List Value) → Plain vs → rests 0 vs ≡ vs
rests_none [] p = refl
rests_none (v ∷ vs) (h, t, p) = cond-true (ltb 0 (length v.bytes)) (v ∷ vs) _ (lt-ltb 0 (length v.bytes) h)

pub plain_rests : (n : ℕ) (vs : List Value) → Plain vs → Plain (rests n vs)
plain_rests n [] p = p
plain_rests n (v ∷ vs) (h, t, p) =
    cond_both (ltb n (length v.bytes)) (advanced n v ∷ vs) (rests (n - length v.bytes) vs) Plain
    (λ e. let k = ltb-true n (length v.bytes) e in let l = length-drop n v.bytes in (omega arith, t, p))
    (λ e. plain_rests (n - length v.bytes) vs p)

few_none : (vs : List Value) → Plain vs → filter kept (each_advanced 0 vs) ≡ vs
few_none [] p = refl
few_none (v ∷ vs) (h, t, p) =
    let e : 0 - length v.bytes ≡ 0 = omega arith in
    cond-true (kept v) _ _ (kept_some v h) ∙ ap (λ i. v ∷ filter kept (each_advanced i vs)) e ∙ ap (λ ws. v ∷ ws) (few_none vs p)

few_plain : (n : ℕ) (vs : List Value) → Plain vs → filter kept (each_advanced n vs) ≡ rests n vs
few_plain n [] p = refl
few_plain n (v ∷ vs) (h, t, p) =
    let l = length-drop n v.bytes in
    ⊎_elim
    (λ k. let e : n - length v.bytes ≡ 0 = omega arith in
    cond-true (kept (advanced n v)) _ _ (kept_some (advanced n v) (omega arith))
    ∙ ap (λ i. advanced n v ∷ filter kept (each_advanced i vs)) e ∙ ap (λ ws. advanced n v ∷ ws) (few_none vs p)
    ∙ sym (cond-true (ltb n (length v.bytes)) (advanced n v ∷ vs) (rests (n - length v.bytes) vs) (lt-ltb n (length v.bytes) k)))
    (λ k. let z : v.tail.count ≡ 0 = ap (λ (u : Tail). u.count) t in
    cond-false (kept (advanced n v)) _ _ (le-ltb 0 (length (drop n v.bytes) + v.tail.count) (omega arith))
    ∙ few_plain (n - length v.bytes) vs p
    ∙ sym (cond-false (ltb n (length v.bytes)) (advanced n v ∷ vs) (rests (n - length v.bytes) vs) (le-ltb n (length v.bytes) k)))
    (cases_lt n (length v.bytes))

many_plain : (n : ℕ) (vs : List Value) → Plain vs → fronts_dropped n vs ≡ rests n vs
many_plain n [] p = refl
many_plain n (v ∷ vs) (h, t, p) =
    cond_both (eqb n 0) (v ∷ vs) (cond (ltb n (length v.bytes)) (advanced n v ∷ vs) (fronts_dropped (n - length v.bytes) vs)) (λ z. z ≡ rests n (v ∷ vs))
    (λ e. let z : n ≡ 0 = eqb-true n 0 e in sym (ap (λ i. rests i (v ∷ vs)) z ∙ rests_none (v ∷ vs) (h, t, p)))
    (λ e. ap (cond (ltb n (length v.bytes)) (advanced n v ∷ vs)) (many_plain (n - length v.bytes) vs p))

plain_in : (f : Form) (n : ℕ) (vs : List Value) → Plain vs → left_in f n vs ≡ rests n vs
plain_in One n vs p = few_plain n vs p
plain_in Small n vs p = few_plain n vs p
plain_in Many n vs p = many_plain n vs p

pub left_plain : (n : ℕ) (vs : List Value) → Plain vs → left_after n vs ≡ rests n vs
left_plain n vs p =
    cond_both (eqb n 0) vs (left_in (form_of (length vs)) n vs) (λ z. z ≡ rests n vs)
    (λ e. sym (ap (λ i. rests i vs) (eqb-true n 0 e) ∙ rests_none vs p))
    (λ _. plain_in (form_of (length vs)) n vs p)

front_plain : (n : ℕ) (vs : List Value) → Plain vs → front_has n vs ≡ true → drop 1 vs ≡ rests n vs
front_plain n [] p e = refl
front_plain n (v ∷ vs) (h, t, p) e =
    let l : length v.bytes ≡ n = front_bytes n v vs e in
    let z : n - length v.bytes ≡ 0 = omega arith in
    sym (cond-false (ltb n (length v.bytes)) (advanced n v ∷ vs) (rests (n - length v.bytes) vs) (le-ltb n (length v.bytes) (omega arith)) ∙ ap (λ i. rests i vs) z ∙ rests_none vs p)

pub copy_plain : (n : ℕ) (vs : List Value) → Plain vs → left_after_copy n vs ≡ rests n vs
copy_plain n vs p =
    cond_both (front_has n vs) (drop 1 vs) (left_after n vs) (λ z. z ≡ rests n vs)
    (λ e. front_plain n vs p e)
    (λ _. left_plain n vs p)

pub rests_rests : (m n : ℕ) (vs : List Value) → rests n (rests m vs) ≡ rests (m + n) vs
rests_rests m n [] = refl
rests_rests m n (v ∷ vs) =
    ⊎_elim
    (λ h. let l = length-drop m v.bytes in
    ap (rests n) (cond-true (ltb m (length v.bytes)) (advanced m v ∷ vs) (rests (m - length v.bytes) vs) (lt-ltb m (length v.bytes) h))
    ∙ ⊎_elim
    (λ k. cond-true (ltb n (length (drop m v.bytes))) _ _ (lt-ltb n (length (drop m v.bytes)) (omega arith))
    ∙ ap (λ bs. record { bytes = bs; tail = v.tail } ∷ vs) (drop-drop n m v.bytes)
    ∙ sym (cond-true (ltb (m + n) (length v.bytes)) (advanced (m + n) v ∷ vs) _ (lt-ltb (m + n) (length v.bytes) k)))
    (λ k. let e : n - length (drop m v.bytes) ≡ m + n - length v.bytes = omega arith in
    cond-false (ltb n (length (drop m v.bytes))) _ _ (le-ltb n (length (drop m v.bytes)) (omega arith))
    ∙ ap (λ i. rests i vs) e
    ∙ sym (cond-false (ltb (m + n) (length v.bytes)) (advanced (m + n) v ∷ vs) _ (le-ltb (m + n) (length v.bytes) k)))
    (cases_lt (m + n) (length v.bytes)))
    (λ h. let e : m - length v.bytes + n ≡ m + n - length v.bytes = omega arith in
    ap (rests n) (cond-false (ltb m (length v.bytes)) (advanced m v ∷ vs) (rests (m - length v.bytes) vs) (le-ltb m (length v.bytes) h))
    ∙ rests_rests (m - length v.bytes) n vs ∙ ap (λ i. rests i vs) e
    ∙ sym (cond-false (ltb (m + n) (length v.bytes)) (advanced (m + n) v ∷ vs) (rests (m + n - length v.bytes) vs) (le-ltb (m + n) (length v.bytes) (omega arith))))
    (cases_lt m (length v.bytes))

-- a way of taking that leaves the rests of plain chunks
Leaves : (ℕ → List Value → List Value) → Type 0
Leaves left = (n : ℕ) (vs : List Value) → Plain vs → left n vs ≡ rests n vs

-- any two such ways, one after the other, leave what a third leaves at once
together : (left right both : ℕ → List Value → List Value) → Leaves left → Leaves right → Leaves both → TakenTogether left right both
unfolding Leaves
together left right both l r b m n vs a t h =
    let p = plain vs a t in
    let e : left m vs ≡ rests m vs = l m vs p in
    ap (right n) e ∙ r n (rests m vs) (plain_rests m vs p) ∙ rests_rests m n vs ∙ sym (b (m + n) vs p)

pub advances_together : TakenTogether left_after left_after left_after
unfolding Leaves
advances_together = together left_after left_after left_after left_plain left_plain left_plain

pub copies_together : TakenTogether left_after_copy left_after_copy left_after_copy
unfolding Leaves
copies_together = together left_after_copy left_after_copy left_after_copy copy_plain copy_plain copy_plain
