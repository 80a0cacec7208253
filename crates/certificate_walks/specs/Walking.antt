-- A walk of blocks that is being written, line by line.
use Rattle.std.specs.Prelude.{ℕ, ◌≡◌, List, [], ◌∷◌, ◌++◌, length, min}
use Rattle.signal_base.specs.declared.window.Window.{Window}
use Rattle.definitions.specs.declared.block.Block.{Block}
use Rattle.definitions.specs.heard.Costs.{Costs}
use Rattle.field_tables.specs.Scored.{Scored, costs_of}
use Rattle.bank_files.specs.Fault.{greatest}
use Rattle.bank_files.specs.Seen.{Seen, OnlyWrites, WriteFails}
use Rattle.bank_files.specs.Told.{AppendsFront}
use Rattle.certificates.specs.declared.certificate.Line.{Line}
use Rattle.certificates.specs.Texts.{steps_text}
use Rattle.certificates.specs.Validity.{AreTight, AreWalks, IsSaid, KeepsTo, opened_by}
use Rattle.certificate_texts.specs.Sending.{IsSent}

-- The lines are walks of these blocks so far, none of which is needless, and then these blocks are due.
abbrev pub LeadTo : Costs → Window → ℕ → List Block → List Line → List Block → Type 0
LeadTo costs window limit blocks [] due = blocks ≡ due
LeadTo costs window limit [] (l ∷ ls) due = ⊥
LeadTo costs window limit (b ∷ bs) (l ∷ ls) due =
    (l.block ≡ b) × IsSaid costs window limit l × KeepsTo limit l.kind l.block l.bound × LeadTo costs window limit (opened_by l ++ bs) ls due

-- to which file, by which tables, and under which limit
pub record Walk : Type 0 where
  pub name : List ℕ
  pub tables : Scored
  pub limit : ℕ

abbrev pub walk_at : List ℕ → Scored → ℕ → Walk
walk_at name tables limit = record { name = name; tables = tables; limit = limit }

-- what was seen before the first byte, which blocks are walked, and which text stands before their lines
pub record Course : Type 0 where
  pub old : Seen
  pub blocks : List Block
  pub before : List ℕ

-- some lines are written or held back, and these blocks are due
pub record IsUnderWay (walk : Walk) (course : Course) (now : Seen) (held : List ℕ) (due : List Block) (steps : ℕ) : Type 0 where
  pub lines : List Line
  pub lead : LeadTo (costs_of walk.tables) walk.tables.window walk.limit course.blocks lines due
  pub sent : IsSent walk.name course.old now held (course.before ++ steps_text lines)
  pub count : steps ≡ min (length lines) greatest

-- Writing failed, after a front of the text of the lines: there is one list of such lines.
pub record HasFailed (walk : Walk) (course : Course) (now : Seen) : Type 0 where
  pub front : (whole : List Line) → AreWalks (costs_of walk.tables) walk.tables.window walk.limit course.blocks whole → AreTight walk.limit whole
      → AppendsFront (course.old.told walk.name) (course.before ++ steps_text whole) (now.told walk.name)
  pub cause : WriteFails walk.name course.old now
  pub only : OnlyWrites walk.name course.old now
