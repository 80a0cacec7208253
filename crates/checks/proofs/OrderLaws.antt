-- What is told of a certificate for a bank in the order of its stations is told of it for the bank.
use Rattle.std.proofs.Common.{◌≡◌, ℕ, List, ap, ◌∙◌, subst}
use Rattle.signal_base.specs.declared.window.Window.{Window}
use Rattle.definitions.specs.answers.FirstTwo.{answer_from}
use Rattle.definitions.specs.heard.Costs.{Costs}
use Rattle.certificates.specs.Judged.{IsBadCertificate, IsGoodCertificate}
use Rattle.due.specs.declared.check_due.CheckDue.{CheckDue}
use Rattle.due.specs.declared.check_due.CheckDue.TheVariants.{Certified}
use Rattle.due.specs.Banks.{Bank, ordered}
use Rattle.due.specs.CertificateRules.{Bad, CheckOrder, Good, IsChecked}
use Rattle.due.specs.CheckDues.{fault_of}
use Rattle.due.proofs.StationLaws.{same_costs, same_window}
use Rattle.check_due.specs.CheckRules.{IsBankChecked}
use Rattle.bank.proofs.EntryLaws.{same_duts}

by_order : (window : Window) (bank : Bank) (bytes : List ℕ) (due : CheckDue) → IsChecked window (ordered bank) bytes due → IsChecked window bank bytes due
by_order window bank bytes due (Bad fault bad e) =
    Bad fault (subst (λ (costs : Costs). IsBadCertificate costs window bank.ceiling bytes (fault_of fault)) (same_costs window bank) bad) e
by_order window bank bytes due (Good first second good e) =
    Good first second (subst (λ (costs : Costs). IsGoodCertificate costs window bank.ceiling bytes first second) (same_costs window bank) good)
    (e ∙ ap (Certified window (answer_from first second)) (same_duts window bank (answer_from first second)))

pub checked_in_order : (o : CheckOrder) (bank seen : Bank) (bytes : List ℕ) (due : CheckDue) → seen ≡ ordered bank → IsBankChecked o seen bytes due → IsBankChecked o bank bytes due
checked_in_order o bank seen bytes due same is =
    let told = subst (λ (b : Bank). IsBankChecked o b bytes due) same is in
    let window = same_window o.asked bank.receivers in
    subst (λ (w : Window). IsChecked w bank bytes due) window (by_order _ bank bytes due told)
