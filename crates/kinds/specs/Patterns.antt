-- Laws of bytes that count up.
use Rattle.std.specs.Prelude.{◌≡◌, ℕ, zero, suc, ◌+◌, ◌-◌, ◌%◌, ◌<◌, List, [], ◌∷◌, ◌++◌, min, length, take, drop, slice_index_or, slice_set, refl}
use Rattle.std.proofs.Common.{sym, ap, ◌∙◌, add-zero, arith}
use Rattle.std.proofs.Math.Nat.{sub-zero}
use Rattle.std.proofs.lemmas.List.{drop_more, set_at}
use Rattle.std.proofs.lemmas.Grind.{common_steps}
use Rattle.iobuf.specs.Values.{over}
use Rattle.kinds.specs.Pattern.{rising}

pub length_rising : (s n : ℕ) → length (rising s n) ≡ n
length_rising s zero = refl
length_rising s (suc n) = ap suc (length_rising (s + 1) n)

-- only the last eight bits of the start count
same_rising : (s t n : ℕ) → s % 256 ≡ t % 256 → rising s n ≡ rising t n
same_rising s t zero e = refl
same_rising s t (suc n) e =
    let next : (s + 1) % 256 ≡ (t + 1) % 256 = omega arith in
    ap (λ b. b ∷ rising (s + 1) n) e ∙ ap (λ bs. t % 256 ∷ bs) (same_rising (s + 1) (t + 1) n next)

-- the first k count up from the same start
pub take_rising : (k s n i : ℕ) → i ≡ min k n → take k (rising s n) ≡ rising s i
take_rising zero s n i e = let none : 0 ≡ i = omega arith in ap (rising s) none
take_rising (suc k) s zero i e = let none : 0 ≡ i = omega arith in ap (rising s) none
take_rising (suc k) s (suc n) i e =
    let at : suc (i - 1) ≡ i = omega arith in
    ap (λ bs. s % 256 ∷ bs) (take_rising k (s + 1) n (i - 1) (omega arith)) ∙ ap (rising s) at

drop_on : (k s n : ℕ) → drop k (rising s n) ≡ rising (s + k) (n - k)
drop_on zero s n = simp (add-zero, sub-zero)
drop_on (suc k) s zero = let none : 0 ≡ 0 - suc k = omega arith in ap (rising (s + suc k)) none
drop_on (suc k) s (suc n) =
    let at : s + 1 + k ≡ s + suc k = omega arith in
    let left : n - k ≡ suc n - suc k = omega arith in
    drop_on k (s + 1) n ∙ ap (λ i. rising i (n - k)) at ∙ ap (rising (s + suc k)) left

-- without the first k they count up from k further on
pub drop_rising : (k s n t m : ℕ) → t ≡ (s + k) % 256 → m ≡ n - k → drop k (rising s n) ≡ rising t m
drop_rising k s n t m e f = drop_on k s n ∙ same_rising (s + k) t (n - k) (omega arith) ∙ ap (rising t) (sym f)

-- the byte i
pub get_or_rising : (i s n d : ℕ) → i < n → slice_index_or (rising s n) i d ≡ (s + i) % 256
get_or_rising i s zero d h = absurd (omega arith)
get_or_rising zero s (suc n) d h = ap (λ k. k % 256) (omega arith)
get_or_rising (suc i) s (suc n) d h = get_or_rising i (s + 1) n d (omega arith) ∙ ap (λ k. k % 256) (omega arith)

-- one byte more
rising_more : (s n : ℕ) → rising s (suc n) ≡ rising s n ++ (s + n) % 256 ∷ []
rising_more s zero = ap (λ k. k % 256 ∷ []) (omega arith)
rising_more s (suc n) =
    let at : s + 1 + n ≡ s + suc n = omega arith in
    ap (λ bs. s % 256 ∷ bs) (rising_more (s + 1) n ∙ ap (λ k. rising (s + 1) n ++ k % 256 ∷ []) at)

-- of the output, i places are written, and then one more
pub written_next : (s i b : ℕ) (out is : List ℕ) → is ≡ rising s i ++ drop i out → i < length out → b ≡ (s + i) % 256
    → slice_set is i b ≡ rising s (i + 1) ++ drop (i + 1) out
written_next s i b out is e l h =
    let more : suc i ≡ i + 1 = omega arith in
    grind (arith, common_steps, length_rising, drop_more out i 0 l, rising_more s i, set_at)

-- behind the n places that were written, the output is what it was
pub all_written : (s count n i : ℕ) (out is : List ℕ) → n ≡ min count (length out) → i ≡ n → is ≡ rising s i ++ drop i (take n out)
    → is ++ drop n out ≡ over (rising s count) out
all_written s count n i out is least e h = grind (arith, common_steps, take_rising, length_rising)
