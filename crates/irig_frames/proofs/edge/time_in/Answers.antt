-- The digits so far are those of a time, and what is refused is none.
use Rattle.std.proofs.Common.{◌≡◌, ◌<◌, ◌≤◌, length, get_or, arith}
use Rattle.std.proofs.lemmas.Bool.Decides.{nat_tests}
use Rattle.irig_frames.proofs.TimeLaws.{IsTimeText-decimal, ReadsDigits-more, ReadsDigits-all, not_digit}
use Rattle.irig_frames.proofs.edge.time_in.Goals as goal
use Rattle.irig_frames.proofs.edge.time_in.Goals.{then-is_empty-via-then-is_empty, then-is_empty-via-else-is_empty+then-digits-gt-MOST_DIGITS}

pub returns-then-is_empty-clause-none : goal.returns-then-is_empty-clause-none
returns-then-is_empty-clause-none c = λ time h.
    let text = IsTimeText-decimal c.args.digits.now time h.0 h.1 in
    grind (arith, nat_tests)

pub returns-then-digits-gt1-clause-none : goal.returns-then-digits-gt1-clause-none
returns-then-digits-gt1-clause-none c = λ time h.
    let text = IsTimeText-decimal c.args.digits.now time h.0 h.1 in
    omega (arith, text.first c.if-digits-eq48.true)

pub returns-then-not-is_ascii_digit-clause-none : goal.returns-then-not-is_ascii_digit-clause-none
returns-then-not-is_ascii_digit-clause-none c = λ time h.
    not_digit c.args.digits.now c.loop-digit.digit-index c.loop-digit-test.true (grind (arith, nat_tests)) (IsTimeText-decimal c.args.digits.now time h.0 h.1)

pub loop-digit-preserved : goal.loop-digit-preserved
loop-digit-preserved c =
    let digit = get_or c.args.digits.now c.loop-digit.digit-index 0 in
    let low : 48 ≤ digit = grind (arith, nat_tests) in
    let high : digit ≤ 57 = grind (arith, nat_tests) in
    rw c.from.ensures (ReadsDigits-more c.args.digits.now c.loop-digit.digit-index c.loop-digit.time c.if-digits-gt-MOST_DIGITS.false c.loop-digit-test.true c.loop-digit.invariant low high)

pub returns-clause-time : goal.returns-clause-time
returns-clause-time c =
    let some : 0 < length c.args.digits.now = grind (arith, nat_tests) in
    let first : get_or c.args.digits.now 0 0 ≡ 48 → length c.args.digits.now ≡ 1 = λ e. grind (arith, nat_tests) in
    ReadsDigits-all c.args.digits.now c.loop-digit.digit-index c.loop-digit.time some c.if-digits-gt-MOST_DIGITS.false first c.loop-digit-test.false c.loop-digit.invariant
