use Rattle.std.proofs.Common.{◌≡◌, ◌+◌, ◌-◌, length, ap, ◌∙◌, arith, length-append}
use Rattle.lists.proofs.Loops.{one_given, one_gone}
use Rattle.ring.specs.Model.{items}
use Rattle.moving.proofs.splitting.hand_over.Goals as goal

pub loop-preserved : goal.loop-preserved
loop-preserved g c =
    let m = c.args.count - c.loop.counter in
    let n = c.args.count - (c.loop.counter + 1) in
    let xs = items c.loop.from in
    let ys = items c.pop_front-chunk.new.self in
    let x = c.pop_front-chunk.result in
    let f = c.pop_front-chunk.ensures.items in
    let e : m ≡ n + 1 = omega arith in
    let long = ap length f in
    let more = ap length c.push_back.ensures.items ∙ length-append (items c.loop.to) _ in (
      one_given m n xs ys x e f (items c.loop.to) (items c.push_back.new.self) c.push_back.ensures.items ∙ c.loop.invariant.0,
      one_gone m n xs ys x e f ∙ c.loop.invariant.1,
      omega (arith, long, c.loop.invariant.2),
      omega (arith, more, c.loop.invariant.3, c.push_back.ensures.limit),
      (c.pop_front-chunk.ensures.limit ∙ c.loop.invariant.4.0, c.push_back.ensures.limit ∙ c.loop.invariant.4.1),
    )
