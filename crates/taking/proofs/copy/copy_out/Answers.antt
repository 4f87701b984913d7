use Rattle.std.proofs.Common.{◌≡◌, ◌-◌, min, ◌++◌, map, length, take, sym, refl, ap, ◌∙◌, arith, length-append}
use Rattle.ring.specs.Model.{items}
use Rattle.rules.specs.Chunks.{joined}
use Rattle.taking.proofs.Sums.{sum_sizes}
use Rattle.taking.proofs.Copies.{copied_more, copied_past}
use Rattle.taking.proofs.copy.copy_out.Goals as goal

pub loop-chunk-init : goal.loop-chunk-init
loop-chunk-init g c =
    let m = g.K.Chunk in
    let s = c.args.store.now in
    let v = m.value s in
    let xs = items c.args.ring.now in
    let full : c.args.n - 0 ≡ c.args.n = omega arith in
    let all : c.into_iter-chunk-iterator.result ≡ xs = c.into_iter-chunk-iterator.ensures.into_iter_gives ∙ c.iter-chunk-items.ensures.rest in (
      omega arith,
      omega (arith, c.requires.within, sum_sizes v m.size (g.met.K.Chunk.sized s) xs, ap (λ ys. length (joined (map v ys))) all),
      ap (λ i. take i (joined (map v c.into_iter-chunk-iterator.result))) full ∙ ap (λ ys. take c.args.n (joined (map v ys))) all,
      refl,
    )

pub loop-chunk-preserved : goal.loop-chunk-preserved
loop-chunk-preserved g c =
    let m = g.K.Chunk in
    let laws = g.met.K.Chunk in
    let s = c.args.store.now in
    let v = m.value s in
    let x = c.in-Some.chunk.now in
    let n = c.args.n in
    let at = c.loop-chunk.at in
    let out = c.loop-chunk.out in
    let b = (v x).bytes in
    let r = joined (map v c.next.new.self) in
    let j : joined (map v c.loop-chunk.chunk-iterator) ≡ b ++ r = ap (λ ys. joined (map v ys)) c.in-Some.ensures.steps in
    let size : c.remaining.result ≡ length b = c.remaining.ensures ∙ sym (laws.sized s x) in
    let k : c.min-at.result ≡ min (n - at) (length b) = omega (arith, c.min-at.ensures, size) in
    let is = copied_more b r out c.pour_out.new.out n at c.min-at.result (omega arith) (omega arith) k c.pour_out.ensures in
    let past = copied_past b r out c.pour_out.new.out n at c.min-at.result (omega arith) (omega arith) k c.pour_out.ensures in (
      omega arith,
      omega (arith, k, ap length j, length-append b r),
      is ∙ ap (λ bs. take at out ++ take (n - at) bs) (sym j) ∙ c.loop-chunk.invariant.2,
      past ∙ c.loop-chunk.invariant.3,
    )
