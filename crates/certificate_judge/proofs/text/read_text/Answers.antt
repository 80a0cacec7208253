-- The outcome of a text is one.
use Rattle.std.proofs.lemmas.Result.{err_from_is_err_and}
use Rattle.certificate_judge.proofs.TextLaws.{fault_is, read_is}
use Rattle.certificate_judge.proofs.text.read_text.Goals as goal

pub returns-in_err-text-clause-every_fault : goal.returns-in_err-text-clause-every_fault
returns-in_err-text-clause-every_fault c =
    let p = err_from_is_err_and c.from_residual.result c.from_residual.ensures.1 in
    let text = c.args.bytes.now in
    rw (p.1, p.2) (λ line fault refused. fault_is text (c.certificate_has_one_outcome.ensures.one_fault text) c.in_err-text.field-0.0 line fault c.in_err-text.ensures.refused refused)

pub returns-clause-every_certificate : goal.returns-clause-every_certificate
returns-clause-every_certificate c = λ certificate is.
    read_is c.args.bytes.now (c.certificate_has_one_outcome.ensures.one_certificate c.args.bytes.now) c.in_ok-text.text certificate c.in_ok-text.ensures.read is

pub returns-clause-every_fault : goal.returns-clause-every_fault
returns-clause-every_fault c = λ line fault refused.
    c.certificate_has_one_outcome.ensures.not_both c.args.bytes.now c.in_ok-text.ensures.read.certificate line fault c.in_ok-text.ensures.read.is_text refused
