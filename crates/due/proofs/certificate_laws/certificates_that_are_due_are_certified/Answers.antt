-- Its text is a good one, which names the answer.
use Rattle.due.proofs.CertificateDueLaws.{certified_owed}
use Rattle.due.proofs.certificate_laws.certificates_that_are_due_are_certified.Goals as goal

pub returns : goal.returns
returns c words contents o config records d answer asks loaded due few is =
    certified_owed contents c.blocks_share_the_sequences.ensures words o config records d asks loaded due
    c.bytes_have_one_judgement.ensures.answer few answer is
