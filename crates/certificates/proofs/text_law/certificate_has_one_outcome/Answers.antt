-- The law, from its lemmas.
use Rattle.std.proofs.Common.{refl, sym}
use Rattle.certificates.proofs.OutcomeLaws.{one_certificate, one_refusal, text_has_outcome, text_not_refused}
use Rattle.certificates.proofs.text_law.certificate_has_one_outcome.Goals as goal

pub returns : goal.returns
returns c = record {
  some = text_has_outcome;
  one_certificate = one_certificate;
  one_fault = one_refusal;
  not_both = text_not_refused;
  written = λ d is few. record { spelled = is; few = few; same = refl };
  same = λ text d is. sym is.same;
}
