-- Its first line decides.
use Rattle.std.proofs.Common.{ℕ, List, inl, inr, refl, sym, subst, codes, arith}
use Rattle.std.specs.Fmt.{digits}
use Rattle.certificates.specs.declared.fault.CertificateLineFault.TheVariants.{Shape}
use Rattle.formats.specs.WordExamples.{asked_usually, words_in}
use Rattle.formats.specs.WordValues.{number_of}
use Rattle.due.specs.declared.check_due.CertificateFault.TheVariants.{BadLine}
use Rattle.due.specs.declared.check_due.CheckDue.TheVariants.{NotCertified}
use Rattle.due.specs.Banks.{bank_of, window_of}
use Rattle.due.specs.CertificateRules.{AsksCheck, Bad, CheckOrder, IsChecked}
use Rattle.check_due.specs.CheckRules.{Judged}
use Rattle.check_due.proofs.examples.certificate_without_a_byte.Goals as goal

abbrev order_of_k : CheckOrder
order_of_k = record { config = codes "k.toml"; certificate = codes "x.cert"; asked = asked_usually }

asks : AsksCheck (words_in (codes "check k.toml x.cert")) order_of_k
unfolding digits number_of
asks = refl

pub returns : goal.returns
returns c = λ contents config records loaded empty.
    let bank = bank_of config records in
    Judged order_of_k asks config records loaded (NotCertified (BadLine 1))
    (subst (λ (bytes : List ℕ). IsChecked (window_of asked_usually bank.receivers) bank bytes (NotCertified (BadLine 1))) (sym empty)
    (Bad (BadLine 1) (inr (inl (omega arith, 1, Shape, c.bad_lines.ensures.nothing, refl))) refl)) refl
