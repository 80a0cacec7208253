-- The law, from its lemmas.
use Rattle.due.proofs.CertificateDueLaws.{one_owed, some_owed}
use Rattle.due.proofs.certificate_laws.one_certificate_is_due.Goals as goal

pub returns-clause-some : goal.returns-clause-some
returns-clause-some c words contents = some_owed contents c.blocks_share_the_sequences.ensures words

pub returns-clause-one : goal.returns-clause-one
returns-clause-one c words contents = one_owed contents words
