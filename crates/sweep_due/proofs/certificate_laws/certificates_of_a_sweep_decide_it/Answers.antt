-- The law, from its lemmas.
use Rattle.sweep_due.proofs.CertificatesLaws.{named_answer, named_window}
use Rattle.sweep_due.proofs.certificate_laws.certificates_of_a_sweep_decide_it.Goals as goal

pub returns : goal.returns
returns c = record {
  answer = λ window bank workers cs century phase are. named_answer window bank workers cs century phase are;
  told = λ window bank workers cs century phase are. named_window window bank workers cs century phase are;
}
