-- What stands behind the word is no number of the range.
use Rattle.certificate_texts.proofs.HeadLaws.{ranged_none}
use Rattle.certificate_texts.proofs.head.ranged_in.Goals as goal

pub returns-in_err-number-clause-none : goal.returns-in_err-number-clause-none
returns-in_err-number-clause-none c =
    rw c.from_residual-in_err-number.ensures
    (ranged_none c.args.word.now c.args.text.now c.in_ok-digits.digits.now c.in_ok-digits.ensures.some c.args.least c.args.most c.in_err-number.ensures.none)
