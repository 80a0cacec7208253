-- What `judge` owes: the first bad certificate of a sweep, or that all of them are valid, with the swept answer.
use Rattle.std.specs.Prelude.{ℕ, ◌≡◌, ◌⊎◌, ◌++◌, List, [], ◌∷◌, Option, Ok, codes}
use Rattle.std.specs.Fmt.{decimal}
use Rattle.signal_base.specs.declared.dut.StationDut.{StationDut}
use Rattle.signal_base.specs.declared.window.Window.{Window}
use Rattle.definitions.specs.declared.answer.Answer.{Answer}
use Rattle.formats.specs.declared.words.Asked.{Asked}
use Rattle.formats.specs.Bytes.{line}
use Rattle.formats.specs.Orders.{order_of}
use Rattle.formats.specs.Orders.Order.{Judge}
use Rattle.formats.specs.Refusals.{CertificateFault, certificate_fault_text}
use Rattle.formats.specs.Reports.{certified_report}
use Rattle.formats.specs.Words.{reach_commands}
use Rattle.certificates.specs.Judged.{IsBadCertificate, IsGoodCertificate}
use Rattle.due.specs.declared.due.Due.TheVariants.{Report}
use Rattle.due.specs.declared.status.Status.{Status}
use Rattle.due.specs.declared.status.Status.TheVariants.{BadCertificate, Done}
use Rattle.due.specs.Banks.{Bank, costs_in}
use Rattle.sweep_due.specs.declared.standing.Standing.{Standing}
use Rattle.sweep_due.specs.Phases.{swept_offsets, window_at}
use Rattle.sweep_due.specs.Standings.{nothing_yet, with_two}
use Rattle.sweep_due.specs.SweepRules.{IsSweepReport}

-- what words ask of `judge`: the configuration's file, how the names of the certificates' files begin, and the window
pub record JudgeOrder : Type 0 where
  pub config : List ℕ
  pub name : List ℕ
  pub asked : Asked

abbrev pub AsksJudge : List (List ℕ) → JudgeOrder → Type 0
AsksJudge words o = order_of reach_commands words ≡ Ok (Judge o.config o.name o.asked)

-- what is told of a sweep's certificates: the report of its answer, or what is wrong with the one at an offset
pub data JudgeDue : Type 0 where
  Certified : Window → Answer → List StationDut → JudgeDue
  NotCertified : (offset : ℕ) → CertificateFault → JudgeDue

-- the bytes of the file at each offset
abbrev pub Files : Type 0
Files = ℕ → List ℕ

-- the certificate at an offset is refused so, under the ceiling of the bank; or it is a valid one, which names these keys
abbrev pub IsBadAt : Window → Bank → Files → ℕ → CertificateFault → Type 0
IsBadAt window bank files i fault = IsBadCertificate (costs_in (window_at window i) bank) (window_at window i) bank.ceiling (files i) fault

abbrev pub IsGoodAt : Window → Bank → Files → ℕ → Option ℕ → Option ℕ → Type 0
IsGoodAt window bank files i first second = IsGoodCertificate (costs_in (window_at window i) bank) (window_at window i) bank.ceiling (files i) first second

-- all at these offsets are valid
abbrev pub AreGood : Window → Bank → Files → List ℕ → Type 0
AreGood window bank files [] = Unit {0}
AreGood window bank files (i ∷ is) = ((first : Option ℕ) × (second : Option ℕ) × IsGoodAt window bank files i first second) × AreGood window bank files is

-- the first that isn't stands at this offset, and this is wrong with it
abbrev pub IsFirstBad : Window → Bank → Files → List ℕ → ℕ → CertificateFault → Type 0
IsFirstBad window bank files [] offset fault = ⊥
IsFirstBad window bank files (i ∷ is) offset fault =
    (IsBadAt window bank files i fault × (offset ≡ i))
    ⊎ (((first : Option ℕ) × (second : Option ℕ) × IsGoodAt window bank files i first second) × IsFirstBad window bank files is offset fault)

-- This is told of the files of a window of a bank: each is read and judged before the next one is read, and the first bad one
-- decides; where all are valid it is the swept answer, whatever that is.
pub data IsJudged (window : Window) (bank : Bank) (files : Files) (due : JudgeDue) : Type 0 where
  Bad : (offset : ℕ) → (fault : CertificateFault) → IsFirstBad window bank files (swept_offsets window.phase) offset fault
      → due ≡ NotCertified offset fault → IsJudged window bank files due
  Good : AreGood window bank files (swept_offsets window.phase) → (told : Window) → (answer : Answer) → (duts : List StationDut)
      → IsSweepReport window bank (Report told answer duts) → due ≡ Certified told answer duts → IsJudged window bank files due

-- A file is read at this offset: all at the offsets before it are valid.
abbrev pub IsReadAt : Window → Bank → Files → List ℕ → ℕ → Type 0
IsReadAt window bank files [] offset = ⊥
IsReadAt window bank files (i ∷ is) offset =
    (offset ≡ i) ⊎ (((first : Option ℕ) × (second : Option ℕ) × IsGoodAt window bank files i first second) × IsReadAt window bank files is offset)

-- What the valid certificates at these offsets name, put together as the keys that searches found, the latest of which stands first.
abbrev pub IsNamed : Window → Bank → Files → List ℕ → Standing → Type 0
IsNamed window bank files [] s = s ≡ nothing_yet
IsNamed window bank files (i ∷ earlier) s =
    (before : Standing) × IsNamed window bank files earlier before
    × (first : Option ℕ) × (second : Option ℕ) × IsGoodAt window bank files i first second × (s ≡ with_two before i first second)

-- the status with which a run ends that told this, and the bytes that it adds to standard output
abbrev pub judge_status : JudgeDue → Status
judge_status (Certified window answer duts) = Done
judge_status (NotCertified offset fault) = BadCertificate

abbrev pub judge_text : JudgeDue → List ℕ
judge_text (Certified window answer duts) = certified_report window duts answer
judge_text (NotCertified offset fault) = line (codes "certificate " ++ decimal offset ++ codes ": " ++ certificate_fault_text fault)
