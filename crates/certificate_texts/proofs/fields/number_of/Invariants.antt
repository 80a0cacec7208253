-- The digits so far are those of the number.
use Rattle.certificate_texts.proofs.FieldLaws.{ReadsDigits}
use Rattle.certificate_texts.proofs.fields.number_of.Given as goal

abbrev pub invariant-loop-digit : goal.invariant-loop-digit
invariant-loop-digit l = ReadsDigits l.digits l.digit-index l.number
