use Rattle.std.proofs.Common.{arith}
use Rattle.lists.proofs.Rings.{turned_back}
use Rattle.ring.proofs.Kept.{kept}
use Rattle.ring.proofs.steps.put_back.Goals as goal

pub returns : goal.returns
returns g c =
    let s = c.args.slots.now in
    let h = c.args.head in
    let n = c.args.len in
    let k = c.place-k.result in
    (turned_back s h n k c.args.x (omega arith) c.requires.short c.place-k.ensures, kept s h _ k c.args.x (omega arith) (omega arith) (omega arith))
