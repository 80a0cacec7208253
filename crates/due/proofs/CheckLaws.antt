-- Of bytes that are to be a certificate one thing is told.
use Rattle.std.proofs.Common.{◌≡◌, ℕ, ◌≤◌, ◌⊎◌, inl, inr, List, Option, refl, sym, ap, ◌∙◌, subst}
use Rattle.signal_base.specs.declared.dut.StationDut.{StationDut}
use Rattle.signal_base.specs.declared.window.Window.{Window}
use Rattle.definitions.specs.declared.answer.Answer.{Answer}
use Rattle.definitions.specs.time.Calendar.{century_minutes}
use Rattle.definitions.specs.heard.Costs.{Costs}
use Rattle.definitions.specs.answers.Answers.{IsWindowAnswer}
use Rattle.definitions.specs.answers.FirstTwo.{answer_from}
use Rattle.definitions.proofs.AnswerLaws.{window_answer_is_one}
use Rattle.definitions.proofs.BoundExistLaws.{a_bound}
use Rattle.definitions.proofs.BoundLaws.{bounds_one}
use Rattle.formats.specs.Refusals.{CertificateFault}
use Rattle.formats.specs.Refusals.CertificateFault.{BadLine, NotAbove, OtherWindow, TooLarge, TooManySteps, Uncovered, WrongBound, WrongEnds}
use Rattle.certificates.specs.Judged.{IsBadCertificate, IsGoodCertificate}
use Rattle.certificates.proofs.JudgedLaws as judgement
use Rattle.due.specs.declared.check_due.CertificateFault.{CertificateFault as ToldFault}
use Rattle.due.specs.declared.check_due.CertificateFault.TheVariants as told
use Rattle.due.specs.declared.check_due.CheckDue.{CheckDue}
use Rattle.due.specs.declared.check_due.CheckDue.TheVariants.{Certified, NotCertified}
use Rattle.due.specs.Banks.{Bank, IsBankAnswer, costs_in, duts_of}
use Rattle.due.specs.CertificateRules.{IsChecked, Bad, Good, certified}
use Rattle.due.specs.CheckDues.{fault_of}

-- a fault is told in one way
abbrev told_of : CertificateFault → ToldFault
told_of TooLarge = told.TooLarge
told_of (BadLine line) = told.BadLine line
told_of (TooManySteps line) = told.TooManySteps line
told_of OtherWindow = told.OtherWindow
told_of (Uncovered step) = told.Uncovered step
told_of (WrongBound step) = told.WrongBound step
told_of (NotAbove step) = told.NotAbove step
told_of (WrongEnds key) = told.WrongEnds key

there : (fault : CertificateFault) → fault_of (told_of fault) ≡ fault
there TooLarge = refl
there (BadLine line) = refl
there (TooManySteps line) = refl
there OtherWindow = refl
there (Uncovered step) = refl
there (WrongBound step) = refl
there (NotAbove step) = refl
there (WrongEnds key) = refl

back : (fault : ToldFault) → told_of (fault_of fault) ≡ fault
back told.TooLarge = refl
back (told.BadLine line) = refl
back (told.TooManySteps line) = refl
back told.OtherWindow = refl
back (told.Uncovered step) = refl
back (told.WrongBound step) = refl
back (told.NotAbove step) = refl
back (told.WrongEnds key) = refl

fault_once : (a b : ToldFault) → fault_of a ≡ fault_of b → a ≡ b
fault_once a b e = sym (back a) ∙ (ap told_of e ∙ back b)

module _ (window : Window) (bank : Bank) (bytes : List ℕ) where
  abbrev costs : Costs
  costs = costs_in window bank

  one_fault : (a b : ToldFault) → IsBadCertificate costs window bank.ceiling bytes (fault_of a) → IsBadCertificate costs window bank.ceiling bytes (fault_of b) → a ≡ b
  one_fault a b bad also =
      fault_once a b
      (judgement.one_fault costs window bank.ceiling (λ c. a_bound costs window c) (λ c. bounds_one costs window c) bytes (fault_of a) (fault_of b) bad also)

  not_both : (first second : Option ℕ) (a : ToldFault) → IsGoodCertificate costs window bank.ceiling bytes first second
      → IsBadCertificate costs window bank.ceiling bytes (fault_of a) → ⊥
  not_both first second a good bad =
      judgement.not_both costs window bank.ceiling (λ c. a_bound costs window c) (λ c. bounds_one costs window c) bytes first second (fault_of a) good bad

  same_report : (f s g t : Option ℕ) (a b : CheckDue) → (f ≡ g) × (s ≡ t) → a ≡ certified window bank (answer_from f s) → b ≡ certified window bank (answer_from g t) → a ≡ b
  same_report f s g t a b same e h = e ∙ ((λ i. certified window bank (answer_from (same.0 i) (same.1 i))) ∙ sym h)

  pub one_told : (a b : CheckDue) → IsChecked window bank bytes a → IsChecked window bank bytes b → a ≡ b
  one_told a b (Bad f bad e) (Bad g also h) = e ∙ (ap NotCertified (one_fault f g bad also) ∙ sym h)
  one_told a b (Bad f bad e) (Good first second good h) = absurd (not_both first second f good bad)
  one_told a b (Good first second good e) (Bad f bad h) = absurd (not_both first second f good bad)
  one_told a b (Good f s good e) (Good g t also h) =
      same_report f s g t a b
      (judgement.one_pair costs window bank.ceiling (λ c. a_bound costs window c) (λ c. bounds_one costs window c) bytes f s g t good also) e h

  pub some_told : (due : CheckDue) × IsChecked window bank bytes due
  some_told = go (judgement.judged costs window bank.ceiling (λ c. a_bound costs window c) (λ c. bounds_one costs window c) bytes)
    where
      go : ((first : Option ℕ) × (second : Option ℕ) × IsGoodCertificate costs window bank.ceiling bytes first second)
          ⊎ ((fault : CertificateFault) × IsBadCertificate costs window bank.ceiling bytes fault) → (due : CheckDue) × IsChecked window bank bytes due
      go (inl (first, second, good)) = (certified window bank (answer_from first second), Good first second good refl)
      go (inr (fault, bad)) = (NotCertified (told_of fault), Bad (told_of fault) (subst (IsBadCertificate costs window bank.ceiling bytes) (sym (there fault)) bad) refl)

  -- what is certified is the answer
  abbrev GivesAnswer : Type 0
  GivesAnswer = (first second : Option ℕ) → IsGoodCertificate costs window bank.ceiling bytes first second → IsWindowAnswer window costs bank.ceiling (answer_from first second)

  parts_of : (w : Window) (a b : Answer) (duts : List StationDut) → Certified w a duts ≡ certified window bank b → (w ≡ window) × (b ≡ a) × (duts ≡ duts_of window bank b)
  parts_of w a b duts e = (cc, cc, cc)

  pub names_answer : GivesAnswer → (w : Window) (a : Answer) (duts : List StationDut) → IsChecked window bank bytes (Certified w a duts)
      → (w ≡ window) × IsBankAnswer window bank a × (duts ≡ duts_of window bank a)
  names_answer gives w a duts (Bad fault bad e) = absurd cc
  names_answer gives w a duts (Good first second good e) =
      let parts = parts_of w a (answer_from first second) duts e in
      (parts.0, subst (IsBankAnswer window bank) parts.1 (gives first second good), subst (λ b. duts ≡ duts_of window bank b) parts.1 parts.2)

  pub tells_answer : GivesAnswer → window.to ≤ century_minutes → (first second : Option ℕ) → IsGoodCertificate costs window bank.ceiling bytes first second
      → (a : Answer) → IsBankAnswer window bank a → IsChecked window bank bytes (certified window bank a)
  tells_answer gives century first second good a is =
      Good first second good (ap (certified window bank) (window_answer_is_one window costs bank.ceiling a (answer_from first second) century is (gives first second good)))
