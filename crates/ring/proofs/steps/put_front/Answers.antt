use Rattle.std.proofs.Common.{arith}
use Rattle.lists.proofs.Rings.{turned_front}
use Rattle.ring.proofs.Kept.{kept}
use Rattle.ring.proofs.steps.put_front.Goals as goal

pub returns : goal.returns
returns g c n lies short =
    let s = c.args.slots.now in
    let k = c.place-k.result in
    (turned_front s c.args.head k n c.args.x (omega arith) (omega arith) c.place-k.ensures, kept s k _ k c.args.x lies.0 (omega arith) (omega arith))
