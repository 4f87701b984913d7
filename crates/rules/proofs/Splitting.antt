-- The search for the place of a cut, and the cut there.
use Rattle.std.proofs.Common.{◌≡◌, ℕ, suc, ◌+◌, ◌-◌, ◌<◌, ◌≤◌, ltb, List, [], ◌∷◌, ◌++◌, map, length, take, drop, sym, refl, ap, ◌∙◌, arith}
use Rattle.std.proofs.lemmas.Bool.{cond_both, cond-true, cond-false, ltb-true, ltb-false, lt-ltb, le-ltb}
use Rattle.std.specs.List.{sum_by}
use Rattle.std.proofs.lemmas.List.Sums.{sum_by-cons}
use Rattle.iobuf.specs.Values.{Value, advanced, first}
use Rattle.rules.specs.Splitting.{fronts, rests, cut_at, with_piece, share, Ends}

module _ {A : Type 0} (size : A → ℕ) where
  -- one chunk further
  abbrev past : ℕ × ℕ → ℕ × ℕ
  past r = (suc r.0, r.1)

  abbrev here : ℕ → ℕ × ℕ
  here n = (0, n)

  -- the search ends at the first chunk, or that goes whole
  by_search : (P : ℕ × ℕ → Type 0) (n : ℕ) (x : A) (xs : List A) → (n < size x → P (here n)) → (size x ≤ n → P (past (cut_at size (n - size x) xs))) → P (cut_at size n (x ∷ xs))
  by_search P n x xs ends goes =
      cond_both (ltb n (size x)) (here n) (past (cut_at size (n - size x) xs)) P (λ e. ends (ltb-true n (size x) e)) (λ e. goes (ltb-false n (size x) e))

  pub cut_within : (n : ℕ) (xs : List A) → (cut_at size n xs).0 ≤ length xs
  cut_within n [] = omega arith
  cut_within n (x ∷ xs) = by_search (λ r. r.0 ≤ length (x ∷ xs)) n x xs (λ _. omega arith) (λ _. omega (arith, cut_within (n - size x) xs))

  -- where the search ends, the next chunk is longer than what is still to take
  pub cut_ends : (n : ℕ) (xs : List A) → Ends size (cut_at size n xs).1 (drop (cut_at size n xs).0 xs)
  cut_ends n [] = tt
  cut_ends n (x ∷ xs) = by_search (λ r. Ends size r.1 (drop r.0 (x ∷ xs))) n x xs (λ h. h) (λ _. cut_ends (n - size x) xs)

  -- and what is still to take is there
  pub cut_left : (n : ℕ) (xs : List A) → n ≤ sum_by size xs → (cut_at size n xs).1 ≤ sum_by size (drop (cut_at size n xs).0 xs)
  cut_left n [] h = h
  cut_left n (x ∷ xs) h = by_search (λ r. r.1 ≤ sum_by size (drop r.0 (x ∷ xs))) n x xs (λ _. h) (λ _. cut_left (n - size x) xs (omega (arith, sum_by-cons size x xs)))

  -- the search goes on behind the first i chunks, with `left` bytes to take
  abbrev pub from : ℕ → ℕ → List A → ℕ × ℕ
  from i left xs = (i + (cut_at size left (drop i xs)).0, (cut_at size left (drop i xs)).1)

  module _ (v : A → Value) (sized : (x : A) → length (v x).bytes ≡ size x) where
    -- the first chunk goes whole
    fronts_next : (n : ℕ) (x : A) (xs : List A) → size x ≤ n → fronts n (map v (x ∷ xs)) ≡ v x ∷ fronts (n - size x) (map v xs)
    fronts_next n x xs k =
        cond-false (ltb n (length (v x).bytes)) _ _ (le-ltb n (length (v x).bytes) (omega (arith, sized x))) ∙ ap (λ j. v x ∷ fronts (n - j) (map v xs)) (sized x)

    rests_next : (n : ℕ) (x : A) (xs : List A) → size x ≤ n → rests n (map v (x ∷ xs)) ≡ rests (n - size x) (map v xs)
    rests_next n x xs k =
        cond-false (ltb n (length (v x).bytes)) _ _ (le-ltb n (length (v x).bytes) (omega (arith, sized x))) ∙ ap (λ j. rests (n - j) (map v xs)) (sized x)

    -- whole chunks go, and then the piece of the chunk where the search ends
    pub fronts_cut : (n : ℕ) (xs : List A) → fronts n (map v xs) ≡ map v (take (cut_at size n xs).0 xs) ++ fronts (cut_at size n xs).1 (map v (drop (cut_at size n xs).0 xs))
    fronts_cut n [] = refl
    fronts_cut n (x ∷ xs) =
        by_search (λ r. fronts n (map v (x ∷ xs)) ≡ map v (take r.0 (x ∷ xs)) ++ fronts r.1 (map v (drop r.0 (x ∷ xs)))) n x xs
        (λ _. refl)
        (λ k. fronts_next n x xs k ∙ ap (λ ys. v x ∷ ys) (fronts_cut (n - size x) xs))

    pub rests_cut : (n : ℕ) (xs : List A) → rests n (map v xs) ≡ rests (cut_at size n xs).1 (map v (drop (cut_at size n xs).0 xs))
    rests_cut n [] = refl
    rests_cut n (x ∷ xs) =
        by_search (λ r. rests n (map v (x ∷ xs)) ≡ rests r.1 (map v (drop r.0 (x ∷ xs)))) n x xs (λ _. refl) (λ k. rests_next n x xs k ∙ rests_cut (n - size x) xs)

    -- the piece, and what stays of its chunk
    pub fronts_piece : (n : ℕ) (x : A) (xs : List A) → 0 < n → n < size x → fronts n (map v (x ∷ xs)) ≡ first n (v x) ∷ []
    fronts_piece n x xs h k =
        cond-true (ltb n (length (v x).bytes)) _ _ (lt-ltb n (length (v x).bytes) (omega (arith, sized x))) ∙ cond-true (ltb 0 n) _ _ (lt-ltb 0 n h)

    pub rests_piece : (n : ℕ) (x : A) (xs : List A) → n < size x → rests n (map v (x ∷ xs)) ≡ advanced n (v x) ∷ map v xs
    rests_piece n x xs k = cond-true (ltb n (length (v x).bytes)) _ _ (lt-ltb n (length (v x).bytes) (omega (arith, sized x)))

    -- no piece: the chunk where the search ends stays as it is
    pub fronts_whole : (xs : List A) → Ends size 0 xs → fronts 0 (map v xs) ≡ []
    fronts_whole [] e = refl
    fronts_whole (x ∷ xs) e = cond-true (ltb 0 (length (v x).bytes)) _ _ (lt-ltb 0 (length (v x).bytes) (omega (arith, sized x)))

    pub rests_whole : (xs : List A) → Ends size 0 xs → rests 0 (map v xs) ≡ map v xs
    rests_whole [] e = refl
    rests_whole (x ∷ xs) e = rests_piece 0 x xs e

    -- the chunks that the target gets, counted by sizes
    pub share_is : (n : ℕ) (xs : List A) → n ≤ sum_by size xs → share size n xs ≡ length (fronts n (map v xs))
    share_is n [] h = cond-false (ltb 0 n) 1 0 (le-ltb 0 n h)
    share_is n (x ∷ xs) h =
        by_search (λ r. with_piece r ≡ length (fronts n (map v (x ∷ xs)))) n x xs
        (λ k. cond_both (ltb 0 n) 1 0 (λ j. j ≡ length (fronts n (map v (x ∷ xs))))
        (λ t. sym (ap length (fronts_piece n x xs (ltb-true 0 n t) k)))
        (λ f. let z : n ≡ 0 = omega (arith, ltb-false 0 n f) in sym (ap length (ap (λ j. fronts j (map v (x ∷ xs))) z ∙ fronts_whole (x ∷ xs) (omega arith)))))
        (λ k. let r = cut_at size (n - size x) xs in
        let on = share_is (n - size x) xs (omega (arith, sum_by-cons size x xs)) in
        let more = ap length (fronts_next n x xs k) in
        cond_both (ltb 0 r.1) (suc r.0 + 1) (suc r.0) (λ j. j ≡ length (fronts n (map v (x ∷ xs))))
        (λ t. omega (arith, more, on, cond-true (ltb 0 r.1) (r.0 + 1) r.0 t))
        (λ f. omega (arith, more, on, cond-false (ltb 0 r.1) (r.0 + 1) r.0 f)))
