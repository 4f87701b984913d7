-- More on plain chunks, and on the two parts that a split makes of chunks.
use Rattle.std.proofs.Common.{◌≡◌, ℕ, ◌-◌, cond, ltb, List, [], ◌∷◌, ◌++◌, length, take, drop, filter, sym, refl, ap, ◌∙◌, arith}
use Rattle.std.proofs.lemmas.List.{append-nil, length-take, take_all, take-append-le}
use Rattle.std.proofs.lemmas.Bool.{cond_both, ltb-true, ltb-false}
use Rattle.iobuf.specs.Values.{Value, first}
use Rattle.rules.specs.Chunks.{joined, kept}
use Rattle.rules.specs.Laws.{AllKept, Tailless}
use Rattle.rules.specs.Splitting.{fronts, rests}
use Rattle.lists.proofs.Appends.{take_past}
use Rattle.rules.proofs.Taking.{Plain, kept_some, joined_left, left_plain}

pub kept_plain : (vs : List Value) → Plain vs → AllKept vs
kept_plain [] p = p
kept_plain (v ∷ vs) (h, t, p) = (kept_some v h, kept_plain vs p)

pub tailless_plain : (vs : List Value) → Plain vs → Tailless vs
tailless_plain [] p = p
tailless_plain (v ∷ vs) (h, t, p) = (t, tailless_plain vs p)

pub tailless_kept : (vs : List Value) → Tailless vs → Tailless (filter kept vs)
tailless_kept [] t = t
tailless_kept (v ∷ vs) (e, t) = cond_both (kept v) (v ∷ filter kept vs) (filter kept vs) Tailless (λ _. (e, tailless_kept vs t)) (λ _. tailless_kept vs t)

pub plain_append : (us vs : List Value) → Plain us → Plain vs → Plain (us ++ vs)
plain_append [] vs p q = q
plain_append (u ∷ us) vs (h, t, p) q = (h, t, plain_append us vs p q)

pub plain_fronts : (n : ℕ) (vs : List Value) → Plain vs → Plain (fronts n vs)
plain_fronts n [] p = p
plain_fronts n (v ∷ vs) (h, t, p) =
    cond_both (ltb n (length v.bytes)) (cond (ltb 0 n) (first n v ∷ []) []) (v ∷ fronts (n - length v.bytes) vs) Plain
    (λ e. cond_both (ltb 0 n) (first n v ∷ []) [] Plain
    (λ f. (omega (arith, ltb-true n (length v.bytes) e, ltb-true 0 n f, length-take n v.bytes), refl, tt))
    (λ _. tt))
    (λ _. (h, t, plain_fronts (n - length v.bytes) vs p))

-- what goes to the target are the first n bytes
pub bytes_fronts : (n : ℕ) (vs : List Value) → joined (fronts n vs) ≡ take n (joined vs)
bytes_fronts n [] = sym (take_all n [] (omega arith))
bytes_fronts n (v ∷ vs) =
    let P : List Value → Type 0 = λ ws. joined ws ≡ take n (v.bytes ++ joined vs) in
    cond_both (ltb n (length v.bytes)) (cond (ltb 0 n) (first n v ∷ []) []) (v ∷ fronts (n - length v.bytes) vs) P
    (λ e. let h = ltb-true n (length v.bytes) e in
    cond_both (ltb 0 n) (first n v ∷ []) [] P
    (λ _. append-nil (take n v.bytes) ∙ sym (take-append-le n v.bytes (joined vs) (omega arith)))
    (λ f. let z : n ≡ 0 = omega (arith, ltb-false 0 n f) in sym (ap (λ k. take k (v.bytes ++ joined vs)) z)))
    (λ e. ap (λ bs. v.bytes ++ bs) (bytes_fronts (n - length v.bytes) vs) ∙ sym (take_past n v.bytes (joined vs) (ltb-false n (length v.bytes) e)))

-- and what stays are the bytes behind those
pub bytes_rests : (n : ℕ) (vs : List Value) → Plain vs → joined (rests n vs) ≡ drop n (joined vs)
bytes_rests n vs p = sym (ap joined (left_plain n vs p)) ∙ joined_left n vs
