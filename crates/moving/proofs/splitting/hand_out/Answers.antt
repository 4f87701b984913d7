use Rattle.std.proofs.Common.{◌≡◌, ℕ, ◌+◌, ◌<◌, ◌≤◌, ltb, List, [], ◌++◌, map, length, take, drop, sym, ap, ◌∙◌, subst, arith, length-append, length-take}
use Rattle.std.proofs.lemmas.List.{append_assoc, append-nil, map-append}
use Rattle.std.proofs.lemmas.Bool.{cond_both, cond-true, lt-ltb}
use Rattle.std.specs.List.{sum_by}
use Rattle.iobuf.specs.Values.{Value}
use Rattle.ring.specs.Model.{items}
use Rattle.rules.specs.Splitting.{fronts, rests, cut_at, with_piece, Ends}
use Rattle.rules.proofs.Splitting.{cut_within, cut_ends, cut_left, fronts_cut, rests_cut, fronts_whole, rests_whole}
use Rattle.taking.proofs.Rounds.{sum_some}
use Rattle.moving.proofs.splitting.hand_out.Goals as goal

-- the share is at least the chunks that go whole
at_least : (at left : ℕ) → at ≤ with_piece (at, left)
at_least at left = cond_both (ltb 0 left) (at + 1) at (λ n. at ≤ n) (λ _. omega arith) (λ _. omega arith)

pub hand_over-requires : goal.hand_over-requires
hand_over-requires g c =
    let size = g.K.Chunk.size in
    let xs = items c.args.from.now in
    let e = ap (λ (r : ℕ × ℕ). r.0) c.requires.found in
    record {
      within = omega (arith, e, cut_within size c.args.n xs);
      fits = omega (arith, c.requires.empty, c.requires.fits, at_least c.args.border.at c.args.border.left);
    }

pub hand_piece-requires : goal.hand_piece-requires
hand_piece-requires g c =
    let size = g.K.Chunk.size in
    let xs = items c.args.from.now in
    let n = c.args.n in
    let at = c.args.border.at in
    let left = c.args.border.left in
    let found = c.requires.found in
    let gone = c.hand_over.ensures.leaves in
    let P : ℕ × ℕ → Type 0 = λ r. Ends size r.1 (drop r.0 xs) in
    let Q : ℕ × ℕ → Type 0 = λ r. r.1 ≤ sum_by size (drop r.0 xs) in
    let ends : Ends size left (drop at xs) = subst P found (cut_ends size n xs) in
    let there : left ≤ sum_by size (drop at xs) = subst Q found (cut_left size n xs c.requires.within) in
    let some : 0 < length (drop at xs) = sum_some size (drop at xs) (omega (arith, c.if-border-gt0.true)) in
    let whole = ap length c.hand_over.ensures.gives ∙ length-append (items c.args.to.now) (take at xs) in
    let piece = cond-true (ltb 0 left) (at + 1) at (lt-ltb 0 left c.if-border-gt0.true) in
    record {
      some = c.if-border-gt0.true;
      first = omega (arith, ap length gone);
      longer = subst (Ends size left) (sym gone) ends;
      fits = omega (arith, whole, length-take at xs, c.requires.empty, c.requires.fits, piece, c.hand_over.ensures.limits.1);
    }

-- the chunks by their values, when `at` of them went whole and `left` bytes are still to take
module _ {K : Type 0} (size : K → ℕ) (v : K → Value) (sized : (x : K) → length (v x).bytes ≡ size x) (n at left : ℕ) (xs : List K) (found : cut_at size n xs ≡ (at, left)) where
  given : (ts us : List K) → us ≡ ts ++ take at xs → map v us ++ fronts left (map v (drop at xs)) ≡ map v ts ++ fronts n (map v xs)
  given ts us e =
      let P : ℕ × ℕ → Type 0 = λ r. fronts n (map v xs) ≡ map v (take r.0 xs) ++ fronts r.1 (map v (drop r.0 xs)) in
      let cut = subst P found (fronts_cut size v sized n xs) in
      ap (λ zs. map v zs ++ fronts left (map v (drop at xs))) e ∙ ap (λ zs. zs ++ fronts left (map v (drop at xs))) (map-append v ts (take at xs))
      ∙ append_assoc (map v ts) (map v (take at xs)) _ ∙ ap (λ zs. map v ts ++ zs) (sym cut)

  stay : rests left (map v (drop at xs)) ≡ rests n (map v xs)
  stay = let P : ℕ × ℕ → Type 0 = λ r. rests n (map v xs) ≡ rests r.1 (map v (drop r.0 xs)) in sym (subst P found (rests_cut size v sized n xs))

pub returns-then-border-gt0 : goal.returns-then-border-gt0
returns-then-border-gt0 g c =
    let k = g.K.Chunk in
    let xs = items c.args.from.now in
    let ts = items c.args.to.now in
    let us = items c.hand_over.new.to in
    let n = c.args.n in
    let left = c.args.border.left in
    let gone = c.hand_over.ensures.leaves in
    let piece = c.hand_piece.ensures in
    record {
      target = λ s.
          let v = k.value s in
          piece.target s ∙ ap (λ zs. map v us ++ fronts left (map v zs)) gone
          ∙ given k.size v (g.met.K.Chunk.sized s) n c.args.border.at left xs c.requires.found ts us c.hand_over.ensures.gives;
      target_limit = piece.target_limit ∙ c.hand_over.ensures.limits.1;
      rest = record {
        leaves = λ s.
            let v = k.value s in
            piece.rest.leaves s ∙ ap (λ zs. rests left (map v zs)) gone ∙ stay k.size v (g.met.K.Chunk.sized s) n c.args.border.at left xs c.requires.found;
        limit = piece.rest.limit ∙ c.hand_over.ensures.limits.0;
      };
    }

pub returns-else-border-gt0 : goal.returns-else-border-gt0
returns-else-border-gt0 g c =
    let k = g.K.Chunk in
    let size = k.size in
    let xs = items c.args.from.now in
    let ts = items c.args.to.now in
    let us = items c.hand_over.new.to in
    let n = c.args.n in
    let at = c.args.border.at in
    let left = c.args.border.left in
    let gone = c.hand_over.ensures.leaves in
    let z : left ≡ 0 = omega (arith, c.if-border-gt0.false) in
    let P : ℕ × ℕ → Type 0 = λ r. Ends size r.1 (drop r.0 xs) in
    let Q : ℕ → Type 0 = λ i. Ends size i (drop at xs) in
    let ends : Ends size 0 (drop at xs) = subst Q z (subst P c.requires.found (cut_ends size n xs)) in
    record {
      target = λ s.
          let v = k.value s in
          let none : fronts left (map v (drop at xs)) ≡ [] = ap (λ i. fronts i (map v (drop at xs))) z ∙ fronts_whole size v (g.met.K.Chunk.sized s) (drop at xs) ends in
          sym (append-nil (map v us)) ∙ ap (λ zs. map v us ++ zs) (sym none) ∙ given size v (g.met.K.Chunk.sized s) n at left xs c.requires.found ts us c.hand_over.ensures.gives;
      target_limit = c.hand_over.ensures.limits.1;
      rest = record {
        leaves = λ s.
            let v = k.value s in
            let sized = g.met.K.Chunk.sized s in
            ap (map v) gone ∙ sym (rests_whole size v sized (drop at xs) ends) ∙ ap (λ i. rests i (map v (drop at xs))) (sym z) ∙ stay size v sized n at left xs c.requires.found;
        limit = c.hand_over.ensures.limits.0;
      };
    }
