-- The field is read, or the text doesn't begin with one.
use Rattle.std.proofs.Common.{ap, sym, ◌∙◌, ◌++◌, ◌∷◌, List, ℕ, arith}
use Rattle.std.specs.Fmt.{decimal}
use Rattle.formats.specs.Bytes.{space}
use Rattle.certificate_texts.proofs.ReadStepLaws.{number_clear, no_field_there, same_field}
use Rattle.certificate_texts.proofs.step.number_then.Goals as goal

pub returns-in_err-field-clause-none : goal.returns-in_err-field-clause-none
returns-in_err-field-clause-none c = rw c.from_residual.ensures (λ v rest low high. no_field_there space (decimal v) rest c.args.text.now c.in_err-field.ensures.none)

pub returns-in_err-value-clause-none : goal.returns-in_err-value-clause-none
returns-in_err-value-clause-none c =
    let field = c.in_ok-field.field in
    rw c.from_residual-in_err-value.ensures
    (λ v rest low high e.
    c.in_err-value.ensures.none v low high
    (same_field space field.front.now (decimal v) field.rest.now rest c.args.text.now c.in_ok-field.ensures.first (number_clear v (omega (arith, high, c.requires))) c.in_ok-field.ensures.parts e))

pub returns-clause-some : goal.returns-clause-some
returns-clause-some c =
    let field = c.in_ok-field.field in
    c.in_ok-field.ensures.parts ∙ ap (λ (x : List ℕ). x ++ space ∷ field.rest.now) (sym c.in_ok-value.ensures.some.2)
