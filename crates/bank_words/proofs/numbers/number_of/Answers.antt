use Rattle.std.proofs.Common.{◌∙◌, ap, sym}
use Rattle.bank_words.specs.Plain.{is_plain}
use Rattle.bank_words.proofs.NumberLaws.{no_plain, not_parsed, parsed}
use Rattle.bank_words.proofs.numbers.number_of.Goals as goal

pub returns-then-not-is_plain-clause-none : goal.returns-then-not-is_plain-clause-none
returns-then-not-is_plain-clause-none c = no_plain c.args.text.now (ap is_plain (sym c.as_bytes.ensures.value) ∙ sym c.is_plain.ensures ∙ c.if-not-is_plain.true)

pub returns-in-Ok-clause-found : goal.returns-in-Ok-clause-found
returns-in-Ok-clause-found c = parsed c.args.text.now (ap is_plain (sym c.as_bytes.ensures.value) ∙ sym c.is_plain.ensures ∙ c.if-not-is_plain.false) c.in-Ok.number c.in-Ok.ensures.value.0

pub returns-in-Err-clause-none : goal.returns-in-Err-clause-none
returns-in-Err-clause-none c = not_parsed c.args.text.now (ap is_plain (sym c.as_bytes.ensures.value) ∙ sym c.is_plain.ensures ∙ c.if-not-is_plain.false) c.in-Err.field-0 c.in-Err.ensures.value.0
