-- The law, from its lemmas.
use Rattle.formats.proofs.OutcomeLaws.{text_has_outcome, one_log, one_fault, log_not_refused, log_is_orderly}
use Rattle.formats.proofs.log_law.log_has_one_outcome.Goals as goal

pub returns : goal.returns
returns c = record { some = text_has_outcome; one_log = one_log; one_fault = one_fault; not_both = log_not_refused; orderly = log_is_orderly }
