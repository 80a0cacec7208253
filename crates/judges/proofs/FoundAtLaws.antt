-- What is found of a file by the grids of a window is found of it by the costs of the bank.
use Rattle.std.proofs.Common.{◌≡◌, ℕ, List, Option, Some, None, sym, subst}
use Rattle.signal_base.specs.declared.window.Window.{Window}
use Rattle.definitions.specs.heard.Costs.{Costs}
use Rattle.plain_costs.specs.Agreement.{AgreeOn}
use Rattle.formats.specs.Refusals.{CertificateFault}
use Rattle.bank_files.specs.Seen.{Seen}
use Rattle.certificates.specs.Judged.{IsBadCertificate, IsGoodCertificate}
use Rattle.certificate_judge.specs.declared.outcome.Outcome.{Outcome}
use Rattle.certificate_judge.specs.Outcomes.{IsOutcome, first_named, outcome_fault, second_named}
use Rattle.due.specs.Banks.{Bank, costs_in}
use Rattle.due.specs.CheckDues.{fault_of}
use Rattle.sweep_due.specs.CertificateNames.{file_at}
use Rattle.sweep_due.specs.Phases.{window_at}
use Rattle.bank.specs.Loading.{IsReadAs}
use Rattle.checks.proofs.CostLaws.{bad_by, good_by}
use Rattle.judges.specs.declared.judging.Found.{Found}
use Rattle.judges.specs.declared.judging.Found.TheVariants as found
use Rattle.judges.specs.Judging.{IsFoundAt, IsFoundOf}

-- an outcome tells a fault, or that there is none
abbrev pub TellsBad : Type 0
TellsBad = (costs : Costs) (window : Window) (ceiling : ℕ) (bytes : List ℕ) (o : Outcome) (fault : CertificateFault)
    → IsOutcome costs window ceiling bytes o → outcome_fault o ≡ Some fault → IsBadCertificate costs window ceiling bytes fault

abbrev pub TellsGood : Type 0
TellsGood = (costs : Costs) (window : Window) (ceiling : ℕ) (bytes : List ℕ) (o : Outcome)
    → IsOutcome costs window ceiling bytes o → outcome_fault o ≡ None → IsGoodCertificate costs window ceiling bytes (first_named o) (second_named o)

module _ (old : Seen) (name : List ℕ) (window : Window) (bank : Bank) (i : ℕ) (costs : Costs) (outcome : Outcome) (tells_bad : TellsBad) (tells_good : TellsGood) where
  -- in the window there, with the file of its name
  there : (f : Found) → AgreeOn (window_at window i) costs (costs_in (window_at window i) bank)
      → IsReadAs old (file_at name i) (λ bytes. IsOutcome costs (window_at window i) bank.ceiling bytes outcome) → IsFoundOf outcome f → IsFoundAt old name window bank i f
  there (found.Good first second) agree (bytes, finds, is) (none, first_is, second_is) =
      let moved = window_at window i in
      let good = good_by moved costs (costs_in moved bank) agree bank.ceiling bytes (first_named outcome) (second_named outcome) (tells_good costs moved bank.ceiling bytes outcome is none) in (
        bytes,
        finds,
        subst (λ (f : Option ℕ). IsGoodCertificate (costs_in moved bank) moved bank.ceiling bytes f second) (sym first_is)
            (subst (λ (s : Option ℕ). IsGoodCertificate (costs_in moved bank) moved bank.ceiling bytes (first_named outcome) s) (sym second_is) good),
      )
  there (found.Bad fault) agree (bytes, finds, is) some =
      let moved = window_at window i in
      (bytes, finds, bad_by moved costs (costs_in moved bank) agree bank.ceiling bytes (fault_of fault) (tells_bad costs moved bank.ceiling bytes outcome (fault_of fault) is some))

  pub found_at : (moved : Window) (file : List ℕ) (f : Found) → moved ≡ window_at window i → file ≡ file_at name i → AgreeOn moved costs (costs_in moved bank)
      → IsReadAs old file (λ bytes. IsOutcome costs moved bank.ceiling bytes outcome) → IsFoundOf outcome f → IsFoundAt old name window bank i f
  found_at moved file f at named agree read tells =
      there f (subst (λ (w : Window). AgreeOn w costs (costs_in w bank)) at agree)
      (subst (λ (n : List ℕ). IsReadAs old n (λ bytes. IsOutcome costs (window_at window i) bank.ceiling bytes outcome)) named
      (subst (λ (w : Window). IsReadAs old file (λ bytes. IsOutcome costs w bank.ceiling bytes outcome)) at read)) tells
