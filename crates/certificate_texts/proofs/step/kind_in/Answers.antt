-- The field is read, or the text doesn't begin with one.
use Rattle.std.proofs.Common.{ap, sym, ◌∙◌, ◌++◌, ◌∷◌, List, ℕ}
use Rattle.certificates.specs.Texts.{kind_text}
use Rattle.formats.specs.Bytes.{space}
use Rattle.certificate_texts.proofs.ReadStepLaws.{kind_clear, no_field_there, same_field}
use Rattle.certificate_texts.proofs.step.kind_in.Goals as goal

pub returns-in_err-field-clause-none : goal.returns-in_err-field-clause-none
returns-in_err-field-clause-none c = rw c.from_residual.ensures (λ v rest. no_field_there space (kind_text v) rest c.args.text.now c.in_err-field.ensures.none)

pub returns-in_err-value-clause-none : goal.returns-in_err-value-clause-none
returns-in_err-value-clause-none c =
    let field = c.in_ok-field.field in
    rw c.from_residual-in_err-value.ensures
    (λ v rest e.
    c.in_err-value.ensures.none v
    (same_field space field.front.now (kind_text v) field.rest.now rest c.args.text.now c.in_ok-field.ensures.first (kind_clear v) c.in_ok-field.ensures.parts e))

pub returns-clause-some : goal.returns-clause-some
returns-clause-some c =
    let field = c.in_ok-field.field in
    c.in_ok-field.ensures.parts ∙ ap (λ (x : List ℕ). x ++ space ∷ field.rest.now) (sym c.in_ok-value.ensures.some)
