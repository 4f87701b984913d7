use Rattle.std.proofs.Common.{arith}
use Rattle.lists.proofs.Rings.{turned_at}
use Rattle.ring.proofs.steps.nth.Goals as goal

pub returns : goal.returns
returns g c n lies within =
    turned_at c.args.slots.now c.args.head n c.args.i c.place-k.result c.index-slots-k.result (omega arith) lies.2 (omega arith) c.place-k.ensures c.index-slots-k.is
