use Rattle.std.proofs.Common.{◌≡◌, length, take, drop, ap, sym, ◌∙◌, arith}
use Rattle.std.proofs.lemmas.List.{append-nil}
use Rattle.lists.proofs.Rings.{turned_within, turned_around}
use Rattle.ring.proofs.steps.parts.Goals as goal

pub returns-then-len-front : goal.returns-then-len-front
returns-then-len-front g c =
    let s = c.args.slots.now in
    let h = c.args.head in
    let n = c.args.len in
    let front : c.split_at.result.1.now ≡ drop h s = c.split_at.ensures.back in
    append-nil (take n c.split_at.result.1.now) ∙ ap (take n) front ∙ sym (turned_within s h n (omega (arith, ap length front)))

pub returns-else-len-front : goal.returns-else-len-front
returns-else-len-front g c =
    let s = c.args.slots.now in
    let h = c.args.head in
    let n = c.args.len in
    rw (c.split_at.ensures.back, c.split_at.ensures.front) (sym (turned_around s h n (omega (arith, ap length c.split_at.ensures.back))))
