use Rattle.std.proofs.Common.{arith}
use Rattle.std.proofs.lemmas.Bool.{not-true}
use Rattle.field_tables.proofs.UnionBoundLaws.{short_where}
use Rattle.field_tables.proofs.sums.WindowSums.has_no_first_second.Goals as goal

pub returns : goal.returns
returns c = λ is t ge lt.
    omega (arith, short_where c.args.block.now.announced t (c.meets_leap_end.ensures (not-true c.meets_leap_end.result is) t ge lt), c.if-block-lt-SECONDS_PER_MINUTE.false)
