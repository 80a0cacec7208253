-- The law, from its lemmas.
use Rattle.sweep_due.proofs.CertificatesLaws.{one_thing, some_thing}
use Rattle.sweep_due.proofs.laws.one_thing_is_owed_of_a_sweep.Goals as goal

pub returns-clause-some : goal.returns-clause-some
returns-clause-some c words contents = some_thing contents c.blocks_share_the_sequences.ensures words

pub returns-clause-one : goal.returns-clause-one
returns-clause-one c words contents = one_thing contents words
