-- What is kept of a text that is read whole.
use Rattle.std.specs.Prelude.{ℕ, ◌≡◌, ◌+◌, List, [], ◌∷◌, length}
use Rattle.certificates.specs.declared.certificate.Line.{Line}
use Rattle.certificates.specs.Texts.{Entry}
use Rattle.certificates.specs.Texts.Entry.{Tells, Part, Step, End}
use Rattle.certificate_texts.specs.declared.reader.Reader.{Reader}
use Rattle.certificate_texts.specs.Reading.{Stands}
use Rattle.certificate_judge.specs.declared.kept.Kept.{Kept}
use Rattle.certificate_judge.specs.Headings.{heading_from, no_heading, steps_of}

-- behind how many steps each part begins, where so many came before
abbrev pub starts_of : ℕ → List Entry → List ℕ
starts_of n [] = []
starts_of n (Tells told value ∷ entries) = starts_of n entries
starts_of n (Part number ∷ entries) = n ∷ starts_of n entries
starts_of n (Step l ∷ entries) = starts_of (n + 1) entries
starts_of n (End ∷ entries) = starts_of n entries

-- these lines were kept
pub record IsKept (kept : Kept) (read : List Entry) : Type 0 where
  pub heading_is : kept.heading ≡ heading_from no_heading read
  pub lines_are : kept.lines.items ≡ steps_of read
  pub starts_are : kept.starts.items ≡ starts_of 0 read

-- the bytes were read up to the line at hand, and their lines kept; or a line is bad
pub record IsReadInto (reader : Reader) (kept : Kept) (bytes : List ℕ) : Type 0 where
  pub read : List Entry
  pub stands : Stands reader bytes read
  pub kept_is : IsKept kept read
