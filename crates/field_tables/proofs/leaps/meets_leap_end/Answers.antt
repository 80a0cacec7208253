use Rattle.std.proofs.Common.{◌≡◌, ◌+◌, ◌*◌, ◌/◌, false, subst, arith}
use Rattle.definitions.specs.time.Calendar.{is_leap_end}
use Rattle.field_tables.proofs.UnionBoundLaws.{no_leap_end}
use Rattle.field_tables.proofs.leaps.meets_leap_end.Goals as goal

pub returns : goal.returns
returns c = λ none t ge lt.
    no_leap_end t (λ last.
    let day = t / 1440 in
    let is : day * 1440 + 1439 ≡ t = omega (arith, last) in
    subst (λ n. is_leap_end n ≡ false) is (c.loop-i.invariant day (omega (arith, ge, c.loop-i-test.false)) (omega (arith, lt, last))))
