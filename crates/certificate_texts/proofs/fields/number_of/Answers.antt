-- The digits so far are those of a number, and what is refused is none.
use Rattle.std.proofs.Common.{◌≡◌, ◌<◌, ◌≤◌, length, get_or, arith}
use Rattle.std.proofs.lemmas.Bool.Decides.{nat_tests}
use Rattle.certificate_texts.proofs.FieldLaws.{digits_all, digits_on, not_digit, number_text}
use Rattle.certificate_texts.proofs.fields.number_of.Goals as goal

pub returns-then-is_empty-clause-none : goal.returns-then-is_empty-clause-none
returns-then-is_empty-clause-none c = λ n small e.
    let text = number_text c.args.digits.now n small e in
    grind (arith, nat_tests)

pub returns-then-digits-gt1-clause-none : goal.returns-then-digits-gt1-clause-none
returns-then-digits-gt1-clause-none c = λ n small e.
    let text = number_text c.args.digits.now n small e in
    omega (arith, text.first c.if-digits-eq48.true)

pub returns-then-not-is_ascii_digit-clause-none : goal.returns-then-not-is_ascii_digit-clause-none
returns-then-not-is_ascii_digit-clause-none c = λ n small e.
    not_digit c.args.digits.now c.loop-digit.digit-index c.loop-digit-test.true (grind (arith, nat_tests)) (number_text c.args.digits.now n small e)

pub loop-digit-preserved : goal.loop-digit-preserved
loop-digit-preserved c =
    let digit = get_or c.args.digits.now c.loop-digit.digit-index 0 in
    let low : 48 ≤ digit = grind (arith, nat_tests) in
    let high : digit ≤ 57 = grind (arith, nat_tests) in
    rw c.from.ensures (digits_on c.args.digits.now c.loop-digit.digit-index c.loop-digit.number c.if-digits-gt-MOST_DIGITS.false c.loop-digit-test.true c.loop-digit.invariant low high)

pub returns-then-number-clause-none : goal.returns-then-number-clause-none
returns-then-number-clause-none c = λ n small e.
    let some : 0 < length c.args.digits.now = grind (arith, nat_tests) in
    let first : get_or c.args.digits.now 0 0 ≡ 48 → length c.args.digits.now ≡ 1 = λ e. grind (arith, nat_tests) in
    let all = digits_all c.args.digits.now c.loop-digit.digit-index c.loop-digit.number some first c.loop-digit-test.false c.loop-digit.invariant in
    omega (arith, all.0, (number_text c.args.digits.now n small e).small, c.if-number.true)

pub returns-clause-some : goal.returns-clause-some
returns-clause-some c =
    let some : 0 < length c.args.digits.now = grind (arith, nat_tests) in
    let first : get_or c.args.digits.now 0 0 ≡ 48 → length c.args.digits.now ≡ 1 = λ e. grind (arith, nat_tests) in
    let all = digits_all c.args.digits.now c.loop-digit.digit-index c.loop-digit.number some first c.loop-digit-test.false c.loop-digit.invariant in
    all.1 (omega (arith, c.if-number.false))
