-- An announced sequence that begins on the day would show the announcement at some station.
use Rattle.std.proofs.Common.{arith}
use Rattle.field_tables.proofs.QuietLaws.{never_legal}
use Rattle.field_tables.proofs.sums.WindowSums.is_quiet.Goals as goal

pub returns : goal.returns
returns c = λ never. never_legal c.args.self.now c.end.ensures.sums c.args.day c.later_minutes.result c.later_minutes.ensures.count
    (omega (arith, c.end.ensures.value)) (c.meets_leap_end.ensures c.if-meets_leap_end.false) (c.never_tells.ensures never)
