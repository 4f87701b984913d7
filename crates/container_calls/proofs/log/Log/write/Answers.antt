use Rattle.std.proofs.Common.{◌≡◌, ◌-◌, min, length, refl, arith}
use Rattle.lists.specs.Parts.{part}
use Rattle.lists.proofs.Parts.{length_part, poured_mid}
use Rattle.container_calls.proofs.log.Log.write.Goals as goal

pub returns : goal.returns
returns c =
    let log = c.args.self.now.bytes.now in
    let at = c.args.self.now.len in
    let room = length log - at in
    let bs = c.args.more.now in
    let long : length (part at room log) ≡ room = length_part at room log (omega (arith, c.args.self.now.within)) in
    let count : c.pour.result ≡ min (length bs) room = omega (arith, c.pour.ensures.count) in
    record {
      slice = refl;
      bytes = poured_mid at room c.pour.result log c.pour.new.stretch bs count c.pour.ensures.after (omega (arith, c.args.self.now.within));
      len = omega (arith, count, c.args.self.now.within);
    }
