-- The law, from its lemma.
use Rattle.sweep_due.proofs.AnotherLaws.{another}
use Rattle.sweep_due.proofs.search_laws.another_is_among_the_first_two.Goals as goal

pub returns : goal.returns
returns c = another
