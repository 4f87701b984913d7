use Rattle.std.proofs.Common.{◌≡◌, ◌+◌, ◌-◌, min, [], ◌∷◌, ◌++◌, length, sym, ap, ◌∙◌, arith}
use Rattle.std.proofs.lemmas.List.{length_push}
use Rattle.ring.specs.Model.{items, limit}
use Rattle.taking.proofs.Rounds.{kept_is, rotated, rotate_keep, rotate_drop}
use Rattle.taking.proofs.advance.advance_small_chunks.Goals as goal
use Rattle.taking.proofs.advance.advance_small_chunks.Goals.{then-kept, else-kept}

pub loop-preserved : goal.loop-preserved
loop-preserved g c =
    let m = g.K.Chunk in
    let laws = g.met.K.Chunk in
    let x = c.pop_front-chunk.result in
    let y = c.skip.new.self in
    let xs = items c.loop.ring in
    let ys = items c.pop_front-chunk.new.self in
    let p : xs ≡ x ∷ ys = c.pop_front-chunk.ensures.items in
    let left = c.loop.due in
    let k = c.min-k.result in
    let rest = c.len-end.result - (c.loop.counter + 1) in
    elim c.if-kept.branch [
      | then-kept w ↦
          (let its : items c.if-kept.ring ≡ ys ++ y ∷ [] = ap items w.ring-is ∙ w.push_back.ensures.items in (
            omega (arith, ap length its, length_push ys y, ap length p, c.loop.invariant.0),
            ap limit w.ring-is ∙ w.push_back.ensures.limit ∙ c.pop_front-chunk.ensures.limit ∙ c.loop.invariant.1,
            λ s. rotate_keep (m.value s) rest (c.len-end.result - c.loop.counter) left k xs ys (items c.if-kept.ring) x y (omega arith) p its (omega (arith, ap length p, c.loop.invariant.0))
                (c.min-k.ensures ∙ ap (min left) (c.remaining.ensures ∙ sym (laws.sized s x))) (c.skip.ensures s)
                (kept_is (m.value s y) (m.size y) (m.tail y) c.kept.result (laws.sized s y) (laws.tailed s y) c.kept.ensures ∙ w.if-kept.true)
                ∙ c.loop.invariant.2 s,
          ))
      | else-kept w ↦
          (let its : items c.if-kept.ring ≡ ys = ap items w.ring-is in (
            omega (arith, ap length its, ap length p, c.loop.invariant.0),
            ap limit w.ring-is ∙ c.pop_front-chunk.ensures.limit ∙ c.loop.invariant.1,
            λ s. ap (rotated (m.value s) rest (left - k)) its ∙ rotate_drop (m.value s) rest (c.len-end.result - c.loop.counter) left k xs ys x y (omega arith) p
                (c.min-k.ensures ∙ ap (min left) (c.remaining.ensures ∙ sym (laws.sized s x))) (c.skip.ensures s)
                (kept_is (m.value s y) (m.size y) (m.tail y) c.kept.result (laws.sized s y) (laws.tailed s y) c.kept.ensures ∙ w.if-kept.false)
                ∙ c.loop.invariant.2 s,
          ))
    ]
