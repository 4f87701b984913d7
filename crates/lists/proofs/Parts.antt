-- Laws of parts, and of what is written over others.
use Rattle.std.proofs.Common.{◌≡◌, ℕ, ◌+◌, ◌-◌, ◌≤◌, min, List, [], ◌++◌, length, take, drop, sym, ap, ◌∙◌, inl, inr, append_assoc, add-zero, arith, length-append, length-drop, take-append-drop, length-take}
use Rattle.std.proofs.lemmas.List.{drop-append-le, drop_at, drop-drop, drop-take, take_all, take_at, length-take-le}
use Rattle.std.proofs.lemmas.Bool.{cases_lt}
use borrow.Rule.Slice.PartMut.{put_mid}
use Rattle.lists.specs.Parts.{part, laid, poured}
use Rattle.lists.proofs.Appends.{take_append}

-- a part that lies within the list is as long as it says
pub length_part : (p n : ℕ) (m : List ℕ) → p + n ≤ length m → length (part p n m) ≡ n
length_part p n m h =
    let k : n ≤ length (drop p m) = simp length-drop (omega arith) in
    length-take-le n (drop p m) k

-- a part without its first k is a part
pub drop_part : (p n k : ℕ) (m : List ℕ) → k ≤ n → drop k (part p n m) ≡ part (p + k) (n - k) m
drop_part p n k m h =
    let e : n ≡ k + (n - k) = omega arith in
    ap (λ i. drop k (part p i m)) e ∙ drop-take k (n - k) (drop p m) ∙ ap (take (n - k)) (drop-drop k p m)

-- nothing written changes nothing
pub laid_none : (a : ℕ) (m : List ℕ) → laid a [] m ≡ m
unfolding laid
laid_none a m = ap (λ i. take a m ++ drop i m) (add-zero a) ∙ take-append-drop a m

take_least : (n k : ℕ) (s : List ℕ) → n ≡ min (length s) k → take n s ≡ take k s
take_least n k s e =
    elim (cases_lt (length s) k) [ inl lt ↦ take_all n s (omega arith) ∙ sym (take_all k s (omega arith)) | inr le ↦ ap (λ i. take i s) (omega arith) ]

-- what is poured into the front of a middle part is written over the whole list
pub poured_mid : (a k n : ℕ) (m mid s : List ℕ) → n ≡ min (length s) k → mid ≡ take n s ++ drop n (part a k m) → a + k ≤ length m → put_mid a k m mid ≡ laid a (take k s) m
unfolding laid
poured_mid a k n m mid s en e h =
    let rest = drop a m in
    let is : take n s ≡ take k s = take_least n k s en in
    let size : length (take k s) ≡ n = length-take k s ∙ omega arith in
    let long : n ≤ length (take k rest) = omega (arith, length-take k rest, length-drop a m) in
    let back : drop n (take k rest) ++ drop k rest ≡ drop (a + n) m =
    sym (drop-append-le n (take k rest) (drop k rest) long) ∙ ap (drop n) (take-append-drop k rest) ∙ drop-drop n a m in
    ap (λ ys. take a m ++ (ys ++ drop k rest)) e
    ∙ ap (λ ys. take a m ++ ys) (append_assoc (take n s) (drop n (take k rest)) (drop k rest) ∙ ap (λ ys. take n s ++ ys) back)
    ∙ ap (λ ys. take a m ++ (ys ++ drop (a + n) m)) is
    ∙ ap (λ i. take a m ++ (take k s ++ drop (a + i) m)) (sym size)

length_laid : (a : ℕ) (s m : List ℕ) → a + length s ≤ length m → length (laid a s m) ≡ length m
unfolding laid
length_laid a s m h =
    omega (arith, length-append (take a m) (s ++ drop (a + length s) m), length-append s (drop (a + length s) m), length-take a m, length-drop (a + length s) m)

-- how much of s fits
fits : (a : ℕ) (s m : List ℕ) → a ≤ length m → a + length (take (length m - a) s) ≤ length m
fits a s m h = omega (arith, length-take (length m - a) s)

pub length_poured : (a : ℕ) (s m : List ℕ) → a ≤ length m → length (poured a s m) ≡ length m
length_poured a s m h = length_laid a (take (length m - a) s) m (fits a s m h)

pub poured_none : (a : ℕ) (m : List ℕ) → poured a [] m ≡ m
poured_none a m = ap (λ s. laid a s m) (take_all (length m - a) [] (omega arith)) ∙ laid_none a m

-- pouring s, and then t behind it, is pouring both at once
pub poured_more : (a b : ℕ) (s t m : List ℕ) → a ≤ length m → b ≡ min (length m) (a + length s) → poured b t (poured a s m) ≡ poured a (s ++ t) m
unfolding laid
poured_more a b s t m h e =
    let n = length m - a in
    let s' = take n s in
    let k : length s' ≡ min n (length s) = length-take n s in
    let at : a + length s' ≡ b = omega arith in
    let front = take a m ++ s' in
    let rest = drop (a + length s') m in
    let m' : poured a s m ≡ front ++ rest = sym (append_assoc (take a m) s' rest) in
    let long : length front ≡ b = length-append (take a m) s' ∙ omega (arith, length-take a m) in
    let left : length (poured a s m) - b ≡ n - length s = omega (arith, length_poured a s m h) in
    let t' = take (n - length s) t in
    let here : take b (poured a s m) ≡ front = ap (take b) m' ∙ take_at front rest b long in
    let behind : (j : ℕ) → drop (b + j) (poured a s m) ≡ drop (b + j) m =
    λ j. sym (drop-drop j b (poured a s m)) ∙ ap (drop j) (ap (drop b) m' ∙ drop_at front rest b long ∙ ap (λ i. drop i m) at) ∙ drop-drop j b m in
    let count : b + length t' ≡ a + length (s' ++ t') = omega (arith, length-append s' t') in
    ap (λ i. laid b (take i t) (poured a s m)) left
    ∙ ap (λ ys. ys ++ (t' ++ drop (b + length t') (poured a s m))) here
    ∙ ap (λ ys. front ++ (t' ++ ys)) (behind (length t') ∙ ap (λ i. drop i m) count)
    ∙ append_assoc (take a m) s' (t' ++ drop (a + length (s' ++ t')) m)
    ∙ ap (λ ys. take a m ++ ys) (sym (append_assoc s' t' (drop (a + length (s' ++ t')) m)))
    ∙ ap (λ ys. laid a ys m) (sym (take_append n s t))
