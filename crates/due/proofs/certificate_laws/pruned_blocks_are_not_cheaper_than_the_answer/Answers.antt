-- A pruned block isn't cheaper than the named keys, which give the answer.
use Rattle.due.proofs.CertificateDueLaws.{not_cheaper_owed}
use Rattle.due.proofs.certificate_laws.pruned_blocks_are_not_cheaper_than_the_answer.Goals as goal

pub returns : goal.returns
returns c words contents o config records d answer l n asks loaded due is has kind bound =
    not_cheaper_owed contents c.blocks_share_the_sequences.ensures words o config records d asks loaded due answer is l n has kind bound
