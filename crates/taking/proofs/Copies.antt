-- The bytes of a list of chunks, written chunk after chunk.
use Rattle.std.proofs.Common.{◌≡◌, ℕ, ◌+◌, ◌-◌, ◌≤◌, min, List, ◌++◌, length, take, drop, sym, ap, ◌∙◌, inl, inr, arith, length-append, length-drop, length-take}
use borrow.Rule.Slice.PartMut.{put_mid}
use Rattle.std.proofs.Math.Seq.{take-append-add}
use Rattle.std.proofs.lemmas.Bool.{cases_lt}
use Rattle.std.proofs.lemmas.List.{append_assoc, length-take-le, take-take, take_all, take-append-le}
use Rattle.std.proofs.lemmas.Slice.{take-put_mid, drop-put_mid}
use Rattle.lists.proofs.Appends.{take_append}
use Rattle.iobuf.specs.Values.{over}

-- the next of n bytes are those of b, and k of them are written to out[at..n]
module _ (b r out part : List ℕ) (n at k : ℕ) (h : at ≤ n) (ho : n ≤ length out) (e : k ≡ min (n - at) (length b)) (t : part ≡ over b (take (n - at) (drop at out))) where
  -- of the bytes that are to come, those of b come first
  next_bytes : take k b ++ take (n - (at + k)) r ≡ take (n - at) (b ++ r)
  next_bytes =
      let first : take k b ≡ take (n - at) b = elim (cases_lt (length b) (n - at)) [ inl lt ↦ take_all k b (omega arith) ∙ sym (take_all (n - at) b (omega arith)) | inr le ↦ ap (λ i. take i b) (omega arith) ] in
      let more : n - (at + k) ≡ n - at - length b = omega arith in
      ap (λ bs. bs ++ take (n - (at + k)) r) first ∙ ap (λ i. take (n - at) b ++ take i r) more ∙ sym (take_append (n - at) b r)

  middle : length (take (n - at) (drop at out)) ≡ n - at
  middle = length-take-le (n - at) (drop at out) (simp length-drop (omega arith))

  whole : length part ≡ n - at
  whole =
      let mid = take (n - at) (drop at out) in
      ap length t ∙ length-append (take (length mid) b) _ ∙ omega (arith, length-take (length mid) b, length-drop (length b) mid, middle)

  pub copied_more : take (at + k) (put_mid at (n - at) out part) ++ take (n - (at + k)) r ≡ take at out ++ take (n - at) (b ++ r)
  copied_more =
      let to_end : take n (put_mid at (n - at) out part) ≡ take at out ++ part = take-put_mid at (n - at) out part n (omega (arith, whole)) (omega arith) in
      let front : take (at + k) (take at out ++ part) ≡ take at out ++ take k part =
      ap (λ i. take (i + k) (take at out ++ part)) (sym (length-take-le at out (omega arith))) ∙ take-append-add (take at out) part k in
      let mid = take (n - at) (drop at out) in
      let now : take k part ≡ take k b =
      ap (take k) t ∙ take-append-le k (take (length mid) b) _ (omega (arith, length-take (length mid) b, middle)) ∙ take-take k (length mid) b (omega (arith, middle)) in
      let all : take (at + k) (put_mid at (n - at) out part) ≡ take at out ++ take k b =
      sym (take-take (at + k) n _ (omega arith)) ∙ ap (take (at + k)) to_end ∙ front ∙ ap (λ bs. take at out ++ bs) now in
      ap (λ bs. bs ++ take (n - (at + k)) r) all ∙ append_assoc (take at out) (take k b) (take (n - (at + k)) r) ∙ ap (λ bs. take at out ++ bs) next_bytes

  pub copied_past : drop n (put_mid at (n - at) out part) ≡ drop n out
  copied_past = drop-put_mid at (n - at) out part n (omega arith) (omega arith) whole
