-- No minute of the block has so many seconds.
use Rattle.std.proofs.Common.{ap, arith}
use Rattle.definitions.specs.time.Calendar.{minute_length}
use Rattle.field_tables.proofs.sums.WindowSums.floor.Goals as goal

pub returns-then-has_no_first_second-clause-floor : goal.returns-then-has_no_first_second-clause-floor
returns-then-has_no_first_second-clause-floor c = λ q inside legal.
    let long = c.has_no_first_second.ensures c.if-has_no_first_second.true q.first inside.not_before inside.before_end in
    let length = ap (λ a. minute_length a q.first) inside.announced in
    omega (arith, legal.0.second, long, length, inside.second)
