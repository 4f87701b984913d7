use Rattle.std.proofs.Common.{◌≡◌, ℕ, ◌-◌, min, length, refl, arith}
use Rattle.lists.specs.Parts.{part}
use Rattle.lists.proofs.Parts.{length_part, poured_mid}
use Rattle.store.specs.Faults.{Unwritten}
use Rattle.store.specs.declared.fault.Fault.{Fault}
use Rattle.store.specs.declared.fault.Layer.TheVariants.{Container}
use Rattle.ring.specs.Model.{items}
use Rattle.rules.specs.Chunks.{joined}
use Rattle.taking.specs.Rings.{bytes_in, values, Copied}
use Rattle.taking.proofs.Sums.{sum_sizes}
use Rattle.container_calls.proofs.Asked.{unrefused}
use Rattle.container_calls.proofs.log.Log.share.Goals as goal

pub returns : goal.returns
returns g c =
    let k = g.K.Chunk in
    let m = c.args.store.now in
    let b = c.args.share.now.ring in
    let d = c.copy_to_bytes.new.self.ring in
    let log = c.args.self.now.bytes.now in
    let at = c.args.self.now.len in
    let within = c.args.self.now.within in
    let n = c.min-n.result in
    let room = length log - at in
    let bs = joined (values k m b) in
    let size : bytes_in k b ≡ length bs = sum_sizes (k.value m) k.size (g.met.K.Chunk.sized m) (items b) in
    let was = part at room log in
    let is = c.copy_to_bytes.new.out in
    let long : length was ≡ room = length_part at room log (omega (arith, within)) in
    let count : n ≡ min (length bs) room = omega (arith, c.min-n.ensures, c.remaining.ensures.sizes) in
    let P : ℕ → Type 0 = λ i. (i ≡ n) × Copied k n m b d was is in
    let Q : Fault → Type 0 = λ f. Unwritten Container n (bytes_in k b) (length was) f × (d ≡ b) × (is ≡ was) in
    let done = unrefused P Q c.copy_to_bytes.result c.copy_to_bytes.ensures (λ f q. omega (arith, q.0.fewer)) in
    record { slice = refl; bytes = poured_mid at room n log is bs count done.1.1.output (omega (arith, within)); len = omega (arith, within) }
