-- What stands behind the word is no key.
use Rattle.certificate_texts.proofs.HeadLaws.{key_none}
use Rattle.certificate_texts.proofs.head.key_in.Goals as goal

pub returns-in_err-value-clause-none : goal.returns-in_err-value-clause-none
returns-in_err-value-clause-none c =
    rw c.from_residual-in_err-value.ensures (key_none c.args.word.now c.args.text.now c.in_ok-field.field.now c.in_ok-field.ensures.some c.in_err-value.ensures.none)
