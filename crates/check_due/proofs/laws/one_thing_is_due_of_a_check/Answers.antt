-- The law, from its lemmas.
use Rattle.check_due.proofs.CheckDueLaws.{one_check_due, some_check_due}
use Rattle.check_due.proofs.laws.one_thing_is_due_of_a_check.Goals as goal

pub returns : goal.returns
returns c = record {
  some = λ words contents. some_check_due contents c.one_thing_is_told_of_a_certificate.ensures.some words;
  one = λ words contents. one_check_due contents c.one_thing_is_told_of_a_certificate.ensures.one words;
}
