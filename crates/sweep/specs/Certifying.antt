-- How a sweep ends that writes certificates, once its bank is loaded.
use Rattle.std.specs.Prelude.{ℕ, ◌≡◌, ◌≢◌, ◌≤◌, true, List, [], ◌∷◌, Some, Result, Ok, Err, string_bytes}
use Rattle.signal_base.specs.declared.limits.TheConstants.{GREATEST_COST}
use Rattle.signal_base.specs.declared.window.Window.{Window}
use Rattle.definitions.specs.declared.block.Block.{Block}
use Rattle.definitions.specs.answers.Blocks.{items}
use Rattle.field_tables.specs.Scored.{costs_of}
use Rattle.bank_files.specs.Seen.{SameCounts, Seen, WriteFails}
use Rattle.bank_files.specs.Told.{Tells, appended, emptied, output_name}
use Rattle.certificates.specs.declared.certificate.Line.{Line}
use Rattle.certificates.specs.Certificates.{Certificate}
use Rattle.certificates.specs.Texts.{certificate_text}
use Rattle.certificate_texts.specs.Layout.{in_first_part}
use Rattle.certificate_walks.specs.Written.{AreTightWalks, IsCutOff}
use Rattle.due.specs.declared.due.Due.{Due}
use Rattle.due.specs.declared.status.Status.{Status}
use Rattle.due.specs.Banks.{Bank}
use Rattle.due.specs.Dues.{status_of}
use Rattle.due.specs.Outputs.{EachOf, Output, printed}
use Rattle.bank.specs.declared.stop.Stop.{Stop}
use Rattle.bank.specs.declared.stop.Stop.TheVariants.{Failed, NoMemory}
use Rattle.bank.specs.Ending.{WritesAll}
use Rattle.sweep_due.specs.Phases.{swept_offsets}
use Rattle.sweep_due.specs.SweepCertificates.{AreCertificates}
use Rattle.sweep_due.specs.SweepOwed.{SweepOwed, owed_outputs}
use Rattle.sweep_due.specs.SweepRules.{IsSweepReport}
use Rattle.sweep.specs.declared.kept.Kept.{Kept}

-- this is owed for a bank in a window: the report of its swept answer, and a certificate of each offset that is swept
pub record IsOwedIn (window : Window) (bank : Bank) (workers : ℕ) (owed : SweepOwed) : Type 0 where
  pub due_is : IsSweepReport window bank owed.due
  pub certificates : List Certificate
  pub certificates_are : AreCertificates window bank workers (swept_offsets window.phase) certificates
  pub owed_are : owed.certificates ≡ Some (record { phase = window.phase; each = certificates })

-- All that is owed was written; or a front of it, of which there is one; or memory ran out before anything was.
abbrev pub Certifies : Window → Bank → ℕ → List ℕ → Seen → Seen → Result Status Stop → Type 0
Certifies window bank workers name old new (Ok status) =
    (owed : SweepOwed) × IsOwedIn window bank workers owed × WritesAll {E = Unit {0}} (owed_outputs (Some name) owed) old new (Ok tt) × (status ≡ status_of owed.due)
Certifies window bank workers name old new (Err Failed) =
    (owed : SweepOwed) → IsOwedIn window bank workers owed → WritesAll {E = Unit {0}} (owed_outputs (Some name) owed) old new (Err tt)
Certifies window bank workers name old new (Err NoMemory) = new ≡ old

-- what is kept can be written: the tables are of the window that the head names, and the list has its items
pub record IsReady (list : List Block) (k : Kept) : Type 0 where
  pub window : k.head.window ≡ k.tables.window
  pub ceiling : k.head.ceiling ≤ GREATEST_COST
  pub items : list ≡ items k.head.window

-- the file of each is another than those behind it and than standard output
abbrev pub AreApart : List Kept → Type 0
AreApart [] = Unit {0}
AreApart (k ∷ ks) = EachOf (λ (l : Kept). string_bytes k.name ≢ string_bytes l.name) ks × (string_bytes k.name ≢ output_name) × AreApart ks

-- the text of a certificate of these lines
abbrev pub text_of_lines : Kept → ℕ → List Line → List ℕ
text_of_lines k parts lines = certificate_text (in_first_part k.head parts lines)

-- the certificate of what is kept was written anew
pub record IsOneWritten (k : Kept) (parts : ℕ) (old new : Seen) : Type 0 where
  pub lines : List Line
  pub walks : AreTightWalks (costs_of k.tables) k.head lines
  pub text : Tells (appended (emptied (old.told (string_bytes k.name))) (text_of_lines k parts lines)) (new.told (string_bytes k.name))
  pub same : SameCounts old new

-- or it is as before, or a front of it was
pub record IsOneCutOff (k : Kept) (parts : ℕ) (old new : Seen) : Type 0 where
  pub front : IsCutOff (costs_of k.tables) k.head parts (old.told (string_bytes k.name)) (new.told (string_bytes k.name))
  pub cause : WriteFails (string_bytes k.name) old new

-- these are the lines of the certificates of what is kept
abbrev pub AreWalked : List Kept → List (List Line) → Type 0
AreWalked [] walks = walks ≡ []
AreWalked (k ∷ ks) [] = ⊥
AreWalked (k ∷ ks) (lines ∷ walks) = AreTightWalks (costs_of k.tables) k.head lines × AreWalked ks walks

-- the certificates of such lines, and what is told behind them
abbrev pub kept_outputs : List Kept → ℕ → List (List Line) → Due → List Output
kept_outputs [] parts walks due = printed due ∷ []
kept_outputs (k ∷ ks) parts [] due = printed due ∷ []
kept_outputs (k ∷ ks) parts (lines ∷ walks) due =
    record { file = string_bytes k.name; anew = true; text = text_of_lines k parts lines } ∷ kept_outputs ks parts walks due

-- The certificates and what is told were written, whole or a front of them. There is one list of tight walks of each.
abbrev pub DeliversKept : {E : Type 0} → List Kept → ℕ → Due → Seen → Seen → Result (Unit {0}) E → Type 0
DeliversKept kept parts due old new (Ok u) =
    (walks : List (List Line)) × AreWalked kept walks × WritesAll {E = Unit {0}} (kept_outputs kept parts walks due) old new (Ok tt)
DeliversKept kept parts due old new (Err e) =
    (walks : List (List Line)) → AreWalked kept walks → WritesAll {E = Unit {0}} (kept_outputs kept parts walks due) old new (Err tt)

-- the files of what is kept, and standard output
abbrev pub files_kept : List Kept → List (List ℕ)
files_kept [] = output_name ∷ []
files_kept (k ∷ ks) = string_bytes k.name ∷ files_kept ks
