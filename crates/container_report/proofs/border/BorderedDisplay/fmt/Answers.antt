use Rattle.std.proofs.Common.{◌-◌, [], ◌++◌, length, take, drop, refl, arith, rules}
use Rattle.std.proofs.Output.{has_written_append}
use Rattle.std.proofs.lemmas.Grind.{common_steps}
use Rattle.container_report.specs.Borders.{behind_border}
use Rattle.container_report.proofs.Bordering.{others_more}
use Rattle.container_report.proofs.border.BorderedDisplay.fmt.Goals as goal

pub loop-size-init : goal.loop-size-init
loop-size-init g c = ([], search rules, refl)

pub loop-size-preserved : goal.loop-size-preserved
loop-size-preserved g c =
    let inv = c.loop-size.invariant in
    let others = take (length c.args.self.now.sizes.now - 1) (drop 1 c.args.self.now.sizes.now) in (
      inv.0 ++ behind_border c.split_at-in-loop-size.result.0.now,
      (λ plain ok. let x = inv.1 plain ok in has_written_append _ _ inv.0 _ _ _ x (c.in_ok-write-2.ensures.writes x.plain ok)),
      grind (arith, common_steps, others_more inv.0 others c.loop-size.rest.now c.loop-size.size-index c.loop-size-test.true, inv.2),
    )
