-- A certificate that is written to the end of a file.
use Rattle.std.specs.Prelude.{ℕ, ◌≡◌, List, length, min}
use Rattle.definitions.specs.heard.Costs.{Costs}
use Rattle.bank_files.specs.Fault.{greatest}
use Rattle.bank_files.specs.Seen.{Seen, OnlyWrites, WriteFails}
use Rattle.bank_files.specs.Told.{AppendsFront}
use Rattle.certificates.specs.declared.certificate.Head.{Head}
use Rattle.certificates.specs.declared.certificate.Line.{Line}
use Rattle.certificates.specs.Texts.{certificate_text}
use Rattle.certificate_texts.specs.Sending.{WritesWhole}
use Rattle.certificate_walks.specs.Written.{AreTightWalks}
use Rattle.certificate_texts.specs.Layout.{in_first_part}

-- the whole of it is there
pub record IsAppended (costs : Costs) (head : Head) (parts : ℕ) (name : List ℕ) (old new : Seen) (steps : ℕ) : Type 0 where
  pub lines : List Line
  pub walks : AreTightWalks costs head lines
  pub writes : WritesWhole name old new (certificate_text (in_first_part head parts lines))
  pub count : steps ≡ min (length lines) greatest

-- a front of it is there, and then writing failed
pub record IsCutShort (costs : Costs) (head : Head) (parts : ℕ) (name : List ℕ) (old new : Seen) : Type 0 where
  pub front : (lines : List Line) → AreTightWalks costs head lines
      → AppendsFront (old.told name) (certificate_text (in_first_part head parts lines)) (new.told name)
  pub cause : WriteFails name old new
  pub only : OnlyWrites name old new
