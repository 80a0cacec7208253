-- The lines are tight walks.
use Rattle.due.proofs.CertificateDueLaws.{keeps_owed}
use Rattle.due.proofs.certificate_laws.no_block_is_opened_in_vain.Goals as goal

pub returns : goal.returns
returns c words contents o config records d front back l asks loaded due parts =
    keeps_owed contents c.blocks_share_the_sequences.ensures words o config records d asks loaded due front back l parts
