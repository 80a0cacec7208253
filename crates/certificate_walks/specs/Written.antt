-- The certificate that is written of keys that were found, and what its file holds.
use Rattle.std.specs.Prelude.{ℕ, ◌≡◌, ◌⊎◌, List, length, min}
use Rattle.definitions.specs.heard.Costs.{Costs}
use Rattle.definitions.specs.answers.Blocks.{items}
use Rattle.bank_files.specs.Fault.{greatest}
use Rattle.bank_files.specs.Told.{AppendsFront, Tells, Told, appended, emptied}
use Rattle.certificates.specs.declared.certificate.Head.{Head}
use Rattle.certificates.specs.declared.certificate.Line.{Line}
use Rattle.certificates.specs.Texts.{certificate_text}
use Rattle.certificates.specs.Validity.{AreTight, AreWalks, limit_named}
use Rattle.certificate_texts.specs.Layout.{in_first_part}

-- the lines are walks of all items in their own order under the limit that the head names, and none of them is needless
pub record AreTightWalks (costs : Costs) (head : Head) (lines : List Line) : Type 0 where
  pub walks : AreWalks costs head.window (limit_named head.ceiling head.second) (items head.window) lines
  pub tight : AreTight (limit_named head.ceiling head.second) lines

-- The file was emptied, and a certificate of these lines is at its end; this is how many there are, as far as a u64 counts.
pub record IsWritten (costs : Costs) (head : Head) (parts : ℕ) (before now : Told) (steps : ℕ) : Type 0 where
  pub lines : List Line
  pub walks : AreTightWalks costs head lines
  pub text : Tells (appended (emptied before) (certificate_text (in_first_part head parts lines))) now
  pub count : steps ≡ min (length lines) greatest

-- The file is as before, or it was emptied, and a front of the certificate is at its end. There is one list of such lines.
abbrev pub IsCutOff : Costs → Head → ℕ → Told → Told → Type 0
IsCutOff costs head parts before now =
    (lines : List Line) → AreTightWalks costs head lines
    → Tells before now ⊎ AppendsFront (emptied before) (certificate_text (in_first_part head parts lines)) now
