-- Lines of a certificate that are read from their bytes, without the LF.
use Rattle.std.specs.Prelude.{ℕ, ◌≡◌, ◌≢◌, List, Option, Some}
use Rattle.certificates.specs.declared.certificate.Line.{Line}
use Rattle.certificates.specs.Certificates.{IsLine}
use Rattle.certificates.specs.Texts.{CanStand, CanTell, Entry, HeadLine, Next, entry_text, head_text, stations_by, stations_text, step_text, version_of}

-- the bytes are what tells this line
pub record Spells (next : Next) (bytes : List ℕ) (entry : Entry) : Type 0 where
  pub can : CanStand next entry
  pub text : entry_text entry ≡ bytes

-- the bytes are no line that may stand there
abbrev pub SpellsNone : Next → List ℕ → Type 0
SpellsNone next bytes = (entry : Entry) → CanStand next entry → entry_text entry ≢ bytes

pub record SpellsHead (told : HeadLine) (before : Option ℕ) (bytes : List ℕ) (value : Option ℕ) : Type 0 where
  pub can : CanTell told before value
  pub text : head_text told value ≡ bytes

abbrev pub SpellsNoHead : HeadLine → Option ℕ → List ℕ → Type 0
SpellsNoHead told before bytes = (value : Option ℕ) → CanTell told before value → head_text told value ≢ bytes

pub record SpellsStep (bytes : List ℕ) (l : Line) : Type 0 where
  pub is_line : IsLine l
  pub text : step_text l ≡ bytes

abbrev pub SpellsNoStep : List ℕ → Type 0
SpellsNoStep bytes = (l : Line) → IsLine l → step_text l ≢ bytes

-- the line names the stations of this mask, after a version that goes with them
abbrev pub IsOfMask : Option ℕ → List ℕ → ℕ → Type 0
IsOfMask before bytes mask = (before ≡ Some (version_of (stations_by mask))) × (stations_text (stations_by mask) ≡ bytes)
