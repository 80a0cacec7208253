-- Two numbers of 64 bits with one text are one.
use Rattle.std.proofs.Common.{sym, ◌∙◌, arith}
use Rattle.std.proofs.lemmas.Fmt.{decimal_injective}
use Rattle.certificate_texts.proofs.fields.number_in.Goals as goal

pub returns-then-number-least-clause-none : goal.returns-then-number-least-clause-none
returns-then-number-least-clause-none c = λ n low high e.
    let is = c.in_ok-number.ensures in
    let same = decimal_injective n c.in_ok-number.number (omega (arith, high, c.ranges.most.fits)) is.small (e ∙ sym is.some) in
    omega (arith, same, low, c.if-number-least.true)

pub returns-then-number-most-clause-none : goal.returns-then-number-most-clause-none
returns-then-number-most-clause-none c = λ n low high e.
    let is = c.in_ok-number.ensures in
    let same = decimal_injective n c.in_ok-number.number (omega (arith, high, c.ranges.most.fits)) is.small (e ∙ sym is.some) in
    omega (arith, same, high, c.if-number-most.true)
