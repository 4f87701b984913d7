-- What a list in a ring of slots becomes when a slot is written, or an end of the list moves.
use Rattle.std.proofs.Common.{◌≡◌, ℕ, zero, suc, ◌+◌, ◌-◌, ◌<◌, ◌≤◌, ◌≢◌, List, [], ◌∷◌, ◌++◌, length, get_or, take, drop, set, sym, refl, ap, ◌∙◌, inl, inr, add-one, arith, length-append, length-drop, length-set, length-take}
use Rattle.std.proofs.Math.Seq.{take-append-add}
use Rattle.std.proofs.lemmas.List.{take-append-le, get_or-take, get_or-drop, get_or_append_left, get_or-append_right, get_or-set_same, get_or-set_other, set-set, set-get_or, same_lists, take_more_set, take-take, get_or_default}
use Rattle.std.proofs.lemmas.Bool.{cases_lt, cases_eq}
use Rattle.lists.specs.Rings.{round, turned, Place}

-- there is a slot k on
lands : (m h k : ℕ) → h ≤ m → k < m → (i : ℕ) × Place m h k i
lands m h k hh hk =
    elim (cases_lt (h + k) m) [ inl lt ↦ (h + k, (lt, inl refl)) | inr le ↦ (h + k - m, (omega arith, inr (omega arith))) ]

-- slots that are not as far on are not the same
apart : (m h k k' i i' : ℕ) → k < m → k' < m → k ≢ k' → Place m h k i → Place m h k' i' → i ≢ i'
apart m h k k' i i' hk hk' ne (a, inl e) (b, inl f) = λ z. ne (omega arith)
apart m h k k' i i' hk hk' ne (a, inl e) (b, inr f) = λ z. omega arith
apart m h k k' i i' hk hk' ne (a, inr e) (b, inl f) = λ z. omega arith
apart m h k k' i i' hk hk' ne (a, inr e) (b, inr f) = λ z. ne (omega arith)

-- slots that are as far on are the same
same_place : (m h k i i' : ℕ) → Place m h k i → Place m h k i' → i ≡ i'
same_place m h k i i' (a, inl e) (b, inl f) = omega arith
same_place m h k i i' (a, inl e) (b, inr f) = omega arith
same_place m h k i i' (a, inr e) (b, inl f) = omega arith
same_place m h k i i' (a, inr e) (b, inr f) = omega arith

-- one on, and then k on, is k + 1 on
place_after : (m h h' k i : ℕ) → h < m → k + 1 < m → Place m h 1 h' → Place m h' k i → Place m h (k + 1) i
place_after m h h' k i hh hk (a, inl e) (b, inl f) = (b, inl (omega arith))
place_after m h h' k i hh hk (a, inl e) (b, inr f) = (b, inr (omega arith))
place_after m h h' k i hh hk (a, inr e) (b, inl f) = (b, inr (omega arith))
place_after m h h' k i hh hk (a, inr e) (b, inr f) = absurd (omega arith)

-- all but one on is one back
place_back : (m h h' : ℕ) → h < m → Place m h (m - 1) h' → Place m h' 1 h
place_back m h h' hh (a, inl f) = (hh, inr (omega arith))
place_back m h h' hh (a, inr f) = (hh, inl (omega arith))

-- the same place among as many slots, and as many on
re_long : (m m' h k i : ℕ) → m' ≡ m → Place m h k i → Place m' h k i
re_long m m' h k i e (a, inl f) = (omega arith, inl f)
re_long m m' h k i e (a, inr f) = (omega arith, inr (omega arith))

re_step : (m h k k' i : ℕ) → k' ≡ k → Place m h k i → Place m h k' i
re_step m h k k' i e (a, inl f) = (a, inl (omega arith))
re_step m h k k' i e (a, inr f) = (a, inr (omega arith))

module _ {T : Type 0} where
  -- as many elements as are asked for, where there are so many slots
  pub length_turned : (s : List T) (h n : ℕ) → h ≤ length s → n ≤ length s → length (turned s h n) ≡ n
  unfolding round
  length_turned s h n hh hn = omega (arith, length-take n (drop h s ++ take h s), length-append (drop h s) (take h s), length-drop h s, length-take h s)

  -- elements that end before the slots do
  pub turned_within : (s : List T) (h n : ℕ) → n ≤ length (drop h s) → turned s h n ≡ take n (drop h s)
  unfolding round
  turned_within s h n le = take-append-le n (drop h s) (take h s) le

  -- elements that go on around the end
  pub turned_around : (s : List T) (h n : ℕ) → length (drop h s) ≤ n → turned s h n ≡ drop h s ++ take (n - length (drop h s)) (take h s)
  unfolding round
  turned_around s h n le =
      let more : n ≡ length (drop h s) + (n - length (drop h s)) = omega arith in
      ap (λ m. take m (drop h s ++ take h s)) more ∙ take-append-add (drop h s) (take h s) (n - length (drop h s))

  -- the element k lies k slots on
  get_or_turned : (s : List T) (h n k i : ℕ) (d : T) → h ≤ length s → n ≤ length s → k < n → Place (length s) h k i → get_or (turned s h n) k d ≡ get_or s i d
  unfolding round
  get_or_turned s h n k i d hh hn hk (hi, inl e) =
      let lt : k < length (drop h s) = omega (arith, length-drop h s) in
      get_or-take n (drop h s ++ take h s) k d hk ∙ get_or_append_left (drop h s) (take h s) d k lt ∙ get_or-drop h s k d ∙ ap (λ m. get_or s m d) e
  get_or_turned s h n k i d hh hn hk (hi, inr e) =
      let le : length s - h ≤ k = omega arith in
      let lt : k - (length s - h) < h = omega arith in
      let at : k - (length s - h) ≡ i = omega arith in
      get_or-take n (drop h s ++ take h s) k d hk ∙ get_or-append_right (drop h s) (take h s) (length s - h) k d (length-drop h s) le
      ∙ get_or-take h s (k - (length s - h)) d lt ∙ ap (λ m. get_or s m d) at

  -- what is read in a slot is an element of the list
  pub turned_at : (s : List T) (h n k i : ℕ) (y : T) → h ≤ length s → n ≤ length s → k < n → Place (length s) h k i → y ≡ get_or s i y → y ≡ get_or (turned s h n) k y
  turned_at s h n k i y hh hn hk p e = e ∙ sym (get_or_turned s h n k i y hh hn hk p)

  -- a slot that is written is one element of the list
  pub turned_set : (s : List T) (h n k i : ℕ) (x : T) → h ≤ length s → n ≤ length s → k < n → Place (length s) h k i → turned (set s i x) h n ≡ set (turned s h n) k x
  turned_set s h n k i x hh hn hk p =
      let long : length (set s i x) ≡ length s = length-set s i x in
      let left : length (turned (set s i x) h n) ≡ n = length_turned (set s i x) h n (omega arith) (omega arith) in
      let was : length (turned s h n) ≡ n = length_turned s h n hh hn in
      let right : length (set (turned s h n) k x) ≡ n = length-set (turned s h n) k x ∙ was in
      same_lists (turned (set s i x) h n) (set (turned s h n) k x) (left ∙ sym right) (λ j d hj.
      let hj' : j < n = omega arith in
      let (m, q) = lands (length s) h j hh (omega arith) in
      let q' : Place (length (set s i x)) h j m = re_long (length s) (length (set s i x)) h j m long q in
      let here : get_or (turned (set s i x) h n) j d ≡ get_or (set s i x) m d = get_or_turned (set s i x) h n j m d (omega arith) (omega arith) hj' q' in
      elim (cases_eq j k) [
        | inl e ↦ here ∙ ap (λ z. get_or (set s i x) z d) (same_place (length s) h k m i (re_step (length s) h j k m (sym e) q) p) ∙ get_or-set_same s i x d p.0 ∙ sym (ap (λ z. get_or (set (turned s h n) k x) z d) e ∙ get_or-set_same (turned s h n) k x d (omega arith))
        | inr ne ↦ here ∙ get_or-set_other s i m x d (apart (length s) h j k m i (omega arith) (omega arith) ne q p) ∙ sym (get_or_turned s h n j m d hh hn hj' q) ∙ sym (get_or-set_other (turned s h n) k j x d ne)
      ])

  -- one element more behind the last
  pub turned_back : (s : List T) (h n i : ℕ) (x : T) → h ≤ length s → n < length s → Place (length s) h n i → turned (set s i x) h (n + 1) ≡ turned s h n ++ x ∷ []
  turned_back s h n i x hh hn p =
      let all : turned (set s i x) h (length s) ≡ set (turned s h (length s)) n x = turned_set s h (length s) n i x hh (omega arith) hn p in
      let long : length (turned s h (length s)) ≡ length s = length_turned s h (length s) hh (omega arith) in
      sym (take-take (n + 1) (length s) (round (set s i x) h) (omega arith)) ∙ ap (take (n + 1)) all
      ∙ take_more_set (turned s h (length s)) n x (omega arith) ∙ ap (λ l. l ++ x ∷ []) (take-take n (length s) (round s h) (omega arith))

  -- `turned_pop`, at each element
  turned_pop_at : (s : List T) (h h' n : ℕ) (y b : T) → h < length s → n < length s → Place (length s) h 1 h' → y ≡ get_or s h y → (j : ℕ) (d : T) → j < n + 1 → get_or (turned s h (n + 1)) j d ≡ get_or (y ∷ turned (set s h b) h' n) j d
  turned_pop_at s h h' n y b hh hn p r zero d hj =
      get_or_turned s h (n + 1) 0 h d (omega arith) (omega arith) hj (hh, inl (omega arith)) ∙ get_or_default s h d y hh ∙ sym r
  turned_pop_at s h h' n y b hh hn p r (suc j) d hj =
      let long : length (set s h b) ≡ length s = length-set s h b in
      let (m, q) = lands (length s) h' j (omega (arith, p.0)) (omega arith) in
      let here : Place (length s) h (j + 1) m = place_after (length s) h h' j m hh (omega arith) p q in
      let ne : m ≢ h = apart (length s) h (j + 1) 0 m h (omega arith) (omega arith) (λ z. omega arith) here (hh, inl (omega arith)) in
      get_or_turned s h (n + 1) (suc j) m d (omega arith) (omega arith) hj (rw (add-one) at here)
      ∙ sym (get_or_turned (set s h b) h' n j m d (omega (arith, p.0)) (omega arith) (omega arith) (re_long (length s) (length (set s h b)) h' j m long q) ∙ get_or-set_other s h m b d ne)

  -- the first element gone, its slot written over
  pub turned_pop : (s : List T) (h h' n : ℕ) (y b : T) → h < length s → n < length s → Place (length s) h 1 h' → y ≡ get_or s h y → turned s h (n + 1) ≡ y ∷ turned (set s h b) h' n
  turned_pop s h h' n y b hh hn p r =
      let long : length (set s h b) ≡ length s = length-set s h b in
      let left : length (turned s h (n + 1)) ≡ n + 1 = length_turned s h (n + 1) (omega arith) (omega arith) in
      let right : length (turned (set s h b) h' n) ≡ n = length_turned (set s h b) h' n (omega (arith, p.0)) (omega arith) in
      same_lists (turned s h (n + 1)) (y ∷ turned (set s h b) h' n) (omega arith) (λ j d hj. turned_pop_at s h h' n y b hh hn p r j d (omega arith))

  -- one element more before the first
  pub turned_front : (s : List T) (h h' n : ℕ) (x : T) → h < length s → n < length s → Place (length s) h (length s - 1) h' → turned (set s h' x) h' (n + 1) ≡ x ∷ turned s h n
  turned_front s h h' n x hh hn p =
      let long : length (set s h' x) ≡ length s = length-set s h' x in
      let here : h' < length s = p.0 in
      turned_pop (set s h' x) h' h n x (get_or s h' x) (omega arith) (omega arith) (re_long (length s) (length (set s h' x)) h' 1 h long (place_back (length s) h h' hh p)) (sym (get_or-set_same s h' x x here))
      ∙ ap (λ l. x ∷ turned l h n) (set-set s h' x (get_or s h' x) ∙ set-get_or s h' x)
