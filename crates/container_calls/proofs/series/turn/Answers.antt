use Rattle.std.proofs.Common.{◌≡◌, min, length, ap, ◌∙◌, arith, length-append}
use Rattle.lists.specs.Parts.{poured}
use Rattle.lists.proofs.Parts.{length_poured, poured_more}
use Rattle.store.specs.Sizes.{chunk_limit}
use Rattle.rules.specs.Chunks.{joined}
use Rattle.taking.specs.Rings.{values}
use Rattle.container_calls.specs.Series.{copied_bytes}
use Rattle.container_calls.proofs.Listed.{handed_on}
use Rattle.container_calls.proofs.series.turn.Goals as goal

pub returns-clause-log : goal.returns-clause-log
returns-clause-log g c =
    let k = g.K.Chunk in
    let m = c.args.store.now in
    let made = c.perform-answer in
    let new = c.new-target in
    let log = c.args.log.now.bytes.now in
    let at = c.args.log.now.len in
    let bs = joined (values k m made.new.target.ring) in
    let cs = copied_bytes made.result made.new.out in
    let share = c.share.ensures in
    let copy : c.copied.result.now ≡ cs = c.copied.ensures in
    let more = c.write.ensures in
    let long = ap length share.bytes ∙ length_poured at bs log c.args.log.now.within in
    let out = handed_on k c.args.call m made.result c.args.bufs.now.ring made.new.bufs.ring new.result.ring made.new.target.ring c.args.out.now made.new.out
    (min chunk_limit (length c.args.slots.now)) made.ensures.performed new.ensures.chunks new.ensures.limit in
    record {
      slice = more.slice ∙ share.slice;
      bytes = more.bytes ∙ ap (λ s. poured c.share.new.self.len s c.share.new.self.bytes.now) copy ∙ ap (poured c.share.new.self.len cs) share.bytes
          ∙ poured_more at c.share.new.self.len bs cs log c.args.log.now.within share.len ∙ ap (λ s. poured at s log) out;
      len = omega (arith, more.len, ap length copy, share.len, long, ap length out, length-append bs cs);
    }
