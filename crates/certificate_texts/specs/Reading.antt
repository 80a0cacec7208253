-- A text that is read byte by byte: its whole lines, and the bytes of the line at hand.
use Rattle.std.specs.Prelude.{ℕ, ◌≡◌, ◌<◌, Bool, true, false, List, ◌++◌, length, Option, Some, None}
use Rattle.formats.specs.Bytes.{line_feed}
use Rattle.certificates.specs.Texts.{Entry, IsRefused, Lead, entries_text, first_line}
use Rattle.certificates.specs.Texts.Next.{AtEnd}
use Rattle.certificate_texts.specs.declared.reader.BadLine.{BadLine}
use Rattle.certificate_texts.specs.declared.reader.Reader.{Reader}
use Rattle.certificate_texts.specs.declared.reader.TheConstants.{LINE_ROOM}
use Rattle.certificate_texts.specs.Fields.{HasNo}
use Rattle.certificate_texts.specs.Places.{next_of}

-- the bytes of the line at hand are kept, unless there are too many
abbrev pub IsHeld : Bool → List ℕ → List ℕ → Type 0
IsHeld false held rest = held ≡ rest
IsHeld true held rest = LINE_ROOM < length rest

-- the bytes have these whole lines, and then those of a line at hand
pub record IsRead (reader : Reader) (bytes : List ℕ) (read : List Entry) : Type 0 where
  pub rest : List ℕ
  pub lead : Lead first_line read (next_of reader.place)
  pub parts : bytes ≡ entries_text read ++ rest
  pub clear : HasNo line_feed rest
  pub held : IsHeld reader.long reader.held.items rest
  pub count : reader.lines ≡ length read

-- the same, or a line is bad, whatever follows
abbrev pub StandsBy : Option BadLine → Reader → List ℕ → List Entry → Type 0
StandsBy None reader bytes read = IsRead reader bytes read
StandsBy (Some bad) reader bytes read = (more : List ℕ) → IsRefused (bytes ++ more) bad.line bad.fault

abbrev pub Stands : Reader → List ℕ → List Entry → Type 0
Stands reader bytes read = StandsBy reader.bad reader bytes read

-- the lines are all of a certificate
pub record IsWhole (bytes : List ℕ) (read : List Entry) : Type 0 where
  pub lead : Lead first_line read AtEnd
  pub same : bytes ≡ entries_text read
