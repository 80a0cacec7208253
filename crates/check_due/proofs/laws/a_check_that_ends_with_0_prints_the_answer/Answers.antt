-- The law, from its lemma.
use Rattle.check_due.proofs.DoneLaws.{ends_with_the_answer}
use Rattle.check_due.proofs.laws.a_check_that_ends_with_0_prints_the_answer.Goals as goal

pub returns : goal.returns
returns c words contents owed = ends_with_the_answer c.one_thing_is_told_of_a_certificate.ensures.answer words contents owed
