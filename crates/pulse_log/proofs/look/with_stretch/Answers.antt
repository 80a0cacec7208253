-- More milliseconds of each level.
use Rattle.std.proofs.Common.{◌≡◌, ◌<◌, ◌∙◌, Some, None, sym, arith}
use Rattle.pulse_log.proofs.PlaceLaws.{count_levels-zero, count_levels-none, count_levels-low, count_levels-high, count_levels-unknown}
use Rattle.pulse_log.proofs.look.with_stretch.Goals as goal

pub returns-then-length-eq0 : goal.returns-then-length-eq0
returns-then-length-eq0 c = rw c.if-length-eq0.true (sym (count_levels-zero c.args.level c.args.low))

pub returns-in_err-low-in-Low : goal.returns-in_err-low-in-Low
returns-in_err-low-in-Low c = c.from_residual.ensures ∙ rw (c.in_err-low-in-Low.was) (sym (count_levels-none c.args.level c.args.length))

pub returns-in_ok-low-in-Low : goal.returns-in_ok-low-in-Low
returns-in_ok-low-in-Low c = rw (c.in-Low.is, c.in_ok-low-in-Low.was) (sym (count_levels-low c.args.length c.in_ok-low-in-Low.field-0))

pub returns-in-High : goal.returns-in-High
returns-in-High c = rw c.in-High.is (sym (count_levels-high c.args.length c.args.low))

pub returns-in-Unknown : goal.returns-in-Unknown
returns-in-Unknown c = rw c.in-Unknown.is (sym (count_levels-unknown c.args.length c.args.low (let some = c.if-length-eq0.false in grind arith)))
