-- What comes of the certificates of a sweep, as they are read one after the other. `old` and `new` are the files before and behind
-- it.
use Rattle.std.specs.Prelude.{ℕ, zero, suc, ◌≡◌, List, [], ◌∷◌, Option, Some, None}
use Rattle.signal_base.specs.declared.window.Window.{Window}
use Rattle.bank_files.specs.Seen.{ReadFails, Seen}
use Rattle.formats.specs.Refusals.{CertificateFault}
use Rattle.certificates.specs.Judged.{IsBadCertificate, IsGoodCertificate}
use Rattle.certificate_judge.specs.declared.outcome.Outcome.{Outcome}
use Rattle.certificate_judge.specs.Outcomes.{first_named, outcome_fault, second_named}
use Rattle.due.specs.declared.due.Due.TheVariants.{Report}
use Rattle.due.specs.Banks.{Bank, costs_in, window_of}
use Rattle.due.specs.CheckDues.{fault_of}
use Rattle.sweep_due.specs.declared.offsets.TheConstants.{OFFSETS}
use Rattle.sweep_due.specs.declared.standing.Standing.{Standing}
use Rattle.sweep_due.specs.CertificateNames.{file_at}
use Rattle.sweep_due.specs.JudgeRules.{JudgeOrder}
use Rattle.sweep_due.specs.Phases.{IsSwept, window_at}
use Rattle.sweep_due.specs.Standings.{nothing_yet, with_two}
use Rattle.sweep_due.specs.SweepRules.{IsSweepReport}
use Rattle.sweep.specs.Turns.{with_offset}
use Rattle.bank.specs.Loading.{IsReadAs}
use Rattle.judges.specs.declared.judging.Found.{Found}
use Rattle.judges.specs.declared.judging.Found.TheVariants as found
use Rattle.judges.specs.declared.offsets.Judged.{Judged}
use Rattle.judges.specs.declared.offsets.Judged.TheVariants.{Bad, Good}
use Rattle.judges.specs.declared.owed.JudgeOwed.{JudgeOwed}
use Rattle.judges.specs.declared.owed.JudgeOwed.TheVariants.{Certified, NotCertified, Told}

-- what an outcome tells: the keys of a valid certificate, or a fault
abbrev pub IsFoundOf : Outcome → Found → Type 0
IsFoundOf outcome (found.Good first second) = (outcome_fault outcome ≡ None) × (first ≡ first_named outcome) × (second ≡ second_named outcome)
IsFoundOf outcome (found.Bad fault) = outcome_fault outcome ≡ Some (fault_of fault)

-- what came of certificates, once this is found of that of an offset
abbrev pub judged_with : Standing → ℕ → Found → Judged
judged_with before i (found.Good first second) = Good (with_two before i first second)
judged_with before i (found.Bad fault) = Bad i fault

module _ (old : Seen) (name : List ℕ) (window : Window) (bank : Bank) where
  -- the certificate at an offset was read, and it is a valid one that names these keys; or it is refused so
  abbrev pub IsGoodIn : ℕ → Option ℕ → Option ℕ → Type 0
  IsGoodIn i first second =
      IsReadAs old (file_at name i) (λ bytes. IsGoodCertificate (costs_in (window_at window i) bank) (window_at window i) bank.ceiling bytes first second)

  abbrev pub IsBadIn : ℕ → CertificateFault → Type 0
  IsBadIn i fault =
      IsReadAs old (file_at name i) (λ bytes. IsBadCertificate (costs_in (window_at window i) bank) (window_at window i) bank.ceiling bytes fault)

  abbrev pub IsFoundAt : ℕ → Found → Type 0
  IsFoundAt i (found.Good first second) = IsGoodIn i first second
  IsFoundAt i (found.Bad fault) = IsBadIn i (fault_of fault)

  -- those at these offsets were read and are valid, and this is what they name, put together; the latest stands first
  abbrev pub AreNamed : List ℕ → Standing → Type 0
  AreNamed [] s = s ≡ nothing_yet
  AreNamed (i ∷ earlier) s =
      (before : Standing) × AreNamed earlier before × (first : Option ℕ) × (second : Option ℕ) × IsGoodIn i first second × (s ≡ with_two before i first second)

-- the swept offsets below a number, the latest first
abbrev pub swept_below : ℕ → ℕ → List ℕ
swept_below phase zero = []
swept_below phase (suc n) = with_offset phase n (swept_below phase n)

-- So many offsets were come to: all certificates of swept ones are valid; or one is bad, and all before it are valid.
abbrev pub IsJudgedBelow : Seen → List ℕ → Window → Bank → ℕ → Judged → Type 0
IsJudgedBelow old name window bank n (Good standing) = AreNamed old name window bank (swept_below window.phase n) standing
IsJudgedBelow old name window bank n (Bad i fault) =
    IsSwept window.phase i × ((s : Standing) × AreNamed old name window bank (swept_below window.phase i) s) × IsBadIn old name window bank i (fault_of fault)

abbrev pub IsJudgedSo : Seen → List ℕ → Window → Bank → Judged → Type 0
IsJudgedSo old name window bank judged = IsJudgedBelow old name window bank OFFSETS judged

-- the file of an offset that is swept couldn't be read
abbrev pub FailsAt : Seen → Seen → List ℕ → Window → ℕ → Type 0
FailsAt old new name window i = IsSwept window.phase i × ReadFails (file_at name i) old new

-- so it is with some one, and all before it are valid
abbrev pub FailsJudging : Seen → Seen → List ℕ → Window → Bank → Type 0
FailsJudging old new name window bank =
    (i : ℕ) × FailsAt old new name window i × (s : Standing) × AreNamed old name window bank (swept_below window.phase i) s

-- the report of the swept answer
abbrev pub IsCertified : Window → Bank → JudgeOwed → Type 0
IsCertified window bank (Told due) = ⊥
IsCertified window bank (Certified told answer duts) = IsSweepReport window bank (Report told answer duts)
IsCertified window bank (NotCertified offset fault) = ⊥

-- What was found of the certificates of a bank's window: all are valid, and this is the report; or this one is the first bad one.
abbrev pub IsWindowFound : Seen → List ℕ → Window → Bank → JudgeOwed → Type 0
IsWindowFound old name window bank (Told due) = ⊥
IsWindowFound old name window bank (Certified told answer duts) =
    ((s : Standing) × AreNamed old name window bank (swept_below window.phase OFFSETS) s) × IsSweepReport window bank (Report told answer duts)
IsWindowFound old name window bank (NotCertified i fault) = IsJudgedSo old name window bank (Bad i fault)

abbrev pub IsBankFound : Seen → JudgeOrder → Bank → JudgeOwed → Type 0
IsBankFound old o bank owed = IsWindowFound old o.name (window_of o.asked bank.receivers) bank owed

abbrev pub FailsBank : Seen → Seen → JudgeOrder → Bank → Type 0
FailsBank old new o bank = FailsJudging old new o.name (window_of o.asked bank.receivers) bank
