-- The outcome of a text is one.
use Rattle.std.proofs.lemmas.Result.{err_from_is_err_and}
use Rattle.pulse_log.proofs.ReadLaws.{fault_names}
use Rattle.pulse_log.proofs.read.read_log.Goals as goal

pub returns-in_err-read_records-clause-every_fault : goal.returns-in_err-read_records-clause-every_fault
returns-in_err-read_records-clause-every_fault c =
    let p = err_from_is_err_and c.from_residual.result c.from_residual.ensures.1 in
    let text = c.args.bytes.now in
    rw (p.1, p.2) (λ line fault owed. fault_names text (c.log_has_one_outcome.ensures.one_fault text) c.in_err-read_records.field-0.0 line fault c.in_err-read_records.ensures.refused owed)

pub returns-clause-every_fault : goal.returns-clause-every_fault
returns-clause-every_fault c = λ line fault owed.
    absurd (c.log_has_one_outcome.ensures.not_both c.args.bytes.now _ line fault c.in_ok-read_records.ensures.accepted owed)
