-- The law, from its lemmas.
use Rattle.due.proofs.DueLaws.{bank_answer_is_one, bank_has_answer}
use Rattle.due.proofs.bank_laws.bank_has_one_answer.Goals as goal

pub returns : goal.returns
returns c = record { some = bank_has_answer; one = bank_answer_is_one }
