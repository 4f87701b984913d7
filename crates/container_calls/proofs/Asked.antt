-- The questions of a call that answered.
use Rattle.std.proofs.Common.{◌≡◌, ℕ, ◌≤◌, Bool, true, false, cond, ltb, leb, List, [], ◌∷◌, Ok, Err, Result, sym, refl, ap, ◌∙◌, arith, MatchResult}
use Rattle.std.proofs.lemmas.Bool.{cond_both, cond-true, cond-false, le-leb, lt-leb, ltb-true, ltb-false, eqb-true}
use Rattle.store.specs.Faults.{Case, not_enough_bytes, output_too_short, not_empty, fault, passes, asks, Short, Unwritten}
use Rattle.store.specs.declared.fault.Fault.{Fault}
use Rattle.store.specs.declared.fault.Layer.{Layer}

-- what is known in either case, made into something else
pub recase : {A E : Type 0} (P P' : A → Type 0) (Q Q' : E → Type 0) (r : Result A E) → ((x : A) → P x → P' x) → ((e : E) → Q e → Q' e) → MatchResult r P Q → MatchResult r P' Q'
recase P P' Q Q' (Ok x) f g h = f x h
recase P P' Q Q' (Err e) f g h = g e h

-- a call that cannot be refused
pub unrefused : {A E : Type 0} (P : A → Type 0) (Q : E → Type 0) (r : Result A E) → MatchResult r P Q → ((e : E) → Q e → ⊥) → (x : A) × P x
unrefused P Q (Ok x) h no_way = (x, h)
unrefused P Q (Err e) h no_way = absurd (no_way e h)

-- one question: are there n bytes of m?
pub asked_bytes : (called : Layer) (n m : ℕ) (r : Result (Unit {0}) Fault) → MatchResult r (λ _. n ≤ m) (Short n m (not_enough_bytes called n m)) → r ≡ asks (not_enough_bytes called n m ∷ [])
asked_bytes called n m (Ok u) h = sym (cond-true (leb n m) (Ok tt) _ (le-leb n m h))
asked_bytes called n m (Err f) h = ap Err h.which ∙ sym (cond-false (leb n m) (Ok tt) (Err (fault (not_enough_bytes called n m))) (lt-leb n m h.fewer))

-- two questions: are there n bytes of m, and n of l places?
pub asked_places : (called : Layer) (n m l : ℕ) (r : Result (Unit {0}) Fault) → MatchResult r (λ _. (n ≤ m) × (n ≤ l)) (Unwritten called n m l) → r ≡ asks (not_enough_bytes called n m ∷ output_too_short called n l ∷ [])
asked_places called n m l (Ok u) (h, k) =
    sym (cond-true (leb n m) (asks (output_too_short called n l ∷ [])) _ (le-leb n m h) ∙ cond-true (leb n l) (Ok tt) _ (le-leb n l k))
asked_places called n m l (Err f) h =
    ap Err h.which
    ∙ cond_both (ltb m n) (not_enough_bytes called n m) (output_too_short called n l) (λ c. Err (fault c) ≡ asks (not_enough_bytes called n m ∷ output_too_short called n l ∷ []))
    (λ t. sym (cond-false (leb n m) (asks (output_too_short called n l ∷ [])) _ (lt-leb n m (ltb-true m n t))))
    (λ t. let e = ltb-false m n t in
    sym (cond-true (leb n m) (asks (output_too_short called n l ∷ [])) _ (le-leb n m e) ∙ cond-false (leb n l) (Ok tt) _ (lt-leb n l (omega (arith, h.fewer)))))

cond_under : {A : Type 0} (b : Bool) (x y z : A) → (b ≡ true → x ≡ y) → cond b x z ≡ cond b y z
cond_under true x y z e = e refl
cond_under false x y z e = refl

-- later questions may be put otherwise, if they come to the same when the first is answered yes
pub asked_then : (c : Case) (cs ds : List Case) → (passes c ≡ true → asks cs ≡ asks ds) → asks (c ∷ cs) ≡ asks (c ∷ ds)
asked_then c cs ds e = cond_under (passes c) (asks cs) (asks ds) (Err (fault c)) e

-- an accepted call had each of its questions answered yes
pub granted : (c : Case) (cs : List Case) → Ok tt ≡ asks (c ∷ cs) → (passes c ≡ true) × (Ok tt ≡ asks cs)
granted c cs =
    cond_both (passes c) (asks cs) (Err (fault c)) (λ r. Ok tt ≡ r → (passes c ≡ true) × (Ok tt ≡ asks cs))
    (λ t e. (t, e))
    (λ _ e. absurd (let z : ◌≡◌ {A = ℕ} 0 1 = cc in omega arith))

-- so a container that was to be filled was empty
pub was_empty : (held : ℕ) (cs : List Case) → Ok tt ≡ asks (not_empty held ∷ cs) → held ≡ 0
was_empty held cs e = eqb-true held 0 (granted (not_empty held) cs e).0
