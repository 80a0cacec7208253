-- What comes of a text that is read whole.
use Rattle.std.specs.Prelude.{ℕ, ◌≡◌, ◌+◌, List, [], ◌∷◌, length, Result, Ok, Err, ⊤}
use Rattle.certificates.specs.declared.certificate.Line.{Line}
use Rattle.certificates.specs.declared.fault.CertificateLineFault.{CertificateLineFault}
use Rattle.certificates.specs.Certificates.{Certificate, lines_of}
use Rattle.certificates.specs.Texts.{Entry, IsRefused, IsText}
use Rattle.certificate_texts.specs.Reading.{IsWhole}
use Rattle.certificate_judge.specs.declared.kept.Kept.{Kept}
use Rattle.certificate_judge.specs.declared.text.CertificateText.{CertificateText}
use Rattle.certificate_judge.specs.declared.text_fault.TextFault.{TextFault}
use Rattle.certificate_judge.specs.declared.text_fault.TextFault.TheVariants.{Refused, NoMemory}
use Rattle.certificate_judge.specs.Kept.{IsKept}

-- behind how many lines each part begins, where so many come before
abbrev pub part_starts : ℕ → List (List Line) → List ℕ
part_starts n [] = []
part_starts n (part ∷ parts) = n ∷ part_starts (n + length part) parts

-- all lines of the text of a certificate were kept
pub record IsKeptOf (kept : Kept) (bytes : List ℕ) : Type 0 where
  pub read : List Entry
  pub whole : IsWhole bytes read
  pub kept_is : IsKept kept read

-- it is this certificate
pub record Tells (text : CertificateText) (c : Certificate) : Type 0 where
  pub head_is : text.head ≡ c.head
  pub lines_are : text.lines.items ≡ lines_of c
  pub starts_are : text.starts.items ≡ part_starts 0 c.parts

-- the bytes are the text of the certificate that it is
pub record IsReadFrom (text : CertificateText) (bytes : List ℕ) : Type 0 where
  pub certificate : Certificate
  pub is_text : IsText certificate bytes
  pub tells : Tells text certificate

-- the line that a fault names is the first bad one, and bad in this way
abbrev pub IsFaultOf : List ℕ → TextFault → Type 0
IsFaultOf bytes (Refused line fault) = IsRefused bytes line fault
IsFaultOf bytes NoMemory = ⊤

-- the certificate was read, or memory ran out
abbrev pub HasRead : Result CertificateText TextFault → Certificate → Type 0
HasRead (Ok text) c = Tells text c
HasRead (Err fault) c = fault ≡ NoMemory

-- this line is named, and how it is bad, or memory ran out
abbrev pub Names : TextFault → ℕ → CertificateLineFault → Type 0
Names (Refused number wrong) line fault = (number ≡ line) × (wrong ≡ fault)
Names NoMemory line fault = ⊤

abbrev pub HasRefused : Result CertificateText TextFault → ℕ → CertificateLineFault → Type 0
HasRefused (Ok text) line fault = ⊥
HasRefused (Err found) line fault = Names found line fault
