-- For which bytes a checker stands.
use Rattle.std.specs.Prelude.{ℕ, ◌≡◌, ◌<◌, ◌≤◌, ◌⊎◌, ◌++◌, Bool, true, false, List, [], length, Option, Some, None}
use Rattle.field_tables.specs.Scored.{Scored}
use Rattle.certificates.specs.declared.limits.TheConstants.{CERTIFICATE_LIMIT}
use Rattle.certificates.specs.Texts.{Entry, IsRefused}
use Rattle.certificates.specs.Validity.{limit_named}
use Rattle.certificate_texts.specs.declared.reader.BadLine.{BadLine}
use Rattle.certificate_texts.specs.declared.reader.Reader.{Reader}
use Rattle.certificate_texts.specs.Reading.{IsRead}
use Rattle.certificate_judge.specs.declared.checker.Checker.{Checker}
use Rattle.certificate_judge.specs.declared.heading.Heading.{Heading}
use Rattle.certificate_judge.specs.declared.judge.Judge.{Judge}
use Rattle.certificate_judge.specs.Headings.{heading_from, no_heading, steps_of}
use Rattle.certificate_judge.specs.Judging.{IsJudged}

-- These whole lines told the heading, and their steps were judged, under the limit that it names. Where there are none yet, they
-- were judged under any.
pub record AreFollowed (heading : Heading) (judge : Judge) (read : List Entry) : Type 0 where
  pub heading_is : heading ≡ heading_from no_heading read
  pub judged : (limit : ℕ) → (steps_of read ≡ []) ⊎ (limit ≡ limit_named judge.ceiling heading.second) → IsJudged limit judge (steps_of read)

-- the bytes were read up to the line at hand
pub record IsFollowed (reader : Reader) (heading : Heading) (judge : Judge) (bytes : List ℕ) : Type 0 where
  pub read : List Entry
  pub is_read : IsRead reader bytes read
  pub followed : AreFollowed heading judge read

-- the same, or a line is bad, whatever follows
abbrev pub IsFollowedBy : Option BadLine → Reader → Heading → Judge → List ℕ → Type 0
IsFollowedBy None reader heading judge bytes = IsFollowed reader heading judge bytes
IsFollowedBy (Some bad) reader heading judge bytes = (more : List ℕ) → IsRefused (bytes ++ more) bad.line bad.fault

-- there were too many bytes, or these were followed
abbrev pub HasTaken : Bool → Checker → List ℕ → Type 0
HasTaken true checker bytes = CERTIFICATE_LIMIT < length bytes
HasTaken false checker bytes =
    (checker.bytes ≡ length bytes) × IsFollowedBy checker.reader.bad checker.reader checker.heading checker.judge bytes

-- the checker stands for these bytes, which are judged by tables and under a ceiling
pub record StandsFor (checker : Checker) (tables : Scored) (ceiling : ℕ) (bytes : List ℕ) : Type 0 where
  pub tables_are : checker.judge.due.tables.now ≡ tables
  pub ceiling_is : checker.judge.ceiling ≡ ceiling
  pub taken : HasTaken checker.large checker bytes
