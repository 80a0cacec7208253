-- The certificate is the one that is owed for the bank.
use Rattle.due.proofs.CertificateDueLaws.{parts_are, valid_owed}
use Rattle.due.proofs.certificate_laws.certificates_that_are_due_are_valid.Goals as goal

pub returns-clause-valid : goal.returns-clause-valid
returns-clause-valid c words contents o config records d asks loaded due =
    valid_owed contents c.blocks_share_the_sequences.ensures words o config records d asks loaded due

pub returns-clause-parts : goal.returns-clause-parts
returns-clause-parts c words contents o config records d asks loaded due = parts_are contents words o config records d asks loaded due
