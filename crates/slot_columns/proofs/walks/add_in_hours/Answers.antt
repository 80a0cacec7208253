use Rattle.std.proofs.Common.{arith}
use Rattle.slot_columns.proofs.walks.add_in_hours.Goals as goal

pub returns : goal.returns
returns c = λ h reached. c.loop-h.invariant.done h (omega (arith, c.hours_reached-h-end.ensures.reached h reached, c.loop-h-test.false))
