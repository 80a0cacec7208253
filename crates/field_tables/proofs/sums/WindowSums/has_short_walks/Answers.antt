use Rattle.std.proofs.Common.{arith}
use Rattle.field_tables.proofs.sums.WindowSums.has_short_walks.Goals as goal

pub overflow_add-block : goal.overflow_add-block
overflow_add-block c = omega (arith, c.requires.no_later, c.later_minutes.ensures.window.century, c.later_minutes.ensures.bound)

pub meets_leap_end-requires : goal.meets_leap_end-requires
meets_leap_end-requires c = omega (arith, c.requires.no_later, c.later_minutes.ensures.window.century, c.later_minutes.ensures.bound)
