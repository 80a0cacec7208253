-- Its text is a good one of the bank.
use Rattle.std.proofs.Common.{List, ℕ, refl, sym, subst}
use Rattle.formats.specs.declared.words.Asked.{Asked}
use Rattle.due.specs.Banks.{bank_of, window_of}
use Rattle.due.specs.CertificateRules.{IsChecked, certified}
use Rattle.due.specs.Inputs.{Certificate}
use Rattle.check_due.specs.CheckRules.{Judged}
use Rattle.check_due.proofs.laws.written_certificates_are_certified.Goals as goal

pub returns : goal.returns
returns c words later contents others o asked config records d answer asks loaded due few also same too text is =
    let bank = bank_of config records in
    let told = certified (window_of o.asked bank.receivers) bank answer in
    Judged asked also config records too told
    (subst (λ (a : Asked). IsChecked (window_of a bank.receivers) bank (others Certificate) told) (sym same)
    (subst (λ (bytes : List ℕ). IsChecked (window_of o.asked bank.receivers) bank bytes told) (sym text)
    (c.certificates_that_are_due_are_certified.ensures words contents o config records d answer asks loaded due few is))) refl
