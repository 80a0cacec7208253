-- What is known of a file that stands open.
use Rattle.std.specs.Prelude.{◌≡◌, ◌≢◌, ℕ, List, Option, String, string_bytes, IfSome, IsSomeAnd}
use Rattle.std.specs.Option.{ForSome}
use Rattle.machine_files.specs.Disk.{Entry, Absent, Disk, told_at}
use Rattle.machine_files.specs.Calls.{StandsAt}
use Rattle.machine_files.specs.declared.opened.Opened.{Opened}

-- the name that was kept, where there was memory to keep it, is this one
abbrev pub IsOpenedBy : {A : Type 0} → Option (String A) → List ℕ → Type 0
IsOpenedBy kept name = IfSome kept (λ text. string_bytes text ≡ name)

-- this name was kept
abbrev pub IsNamed : {A : Type 0} → Option (String A) → List ℕ → Type 0
IsNamed kept name = IsSomeAnd kept (λ text. string_bytes text ≡ name)

-- An open file is there, and leads where the name leads.
pub record IsOpen (disk : Disk) (leads : Entry) (name : List ℕ) : Type 0 where
  pub there : leads ≢ Absent
  pub same : leads ≡ disk.entry name

-- the place that is kept of an open file is the one where it stands
abbrev pub StandsWhere : {F : Type 0} → Disk → (F → Entry) → (F → ℕ) → Opened F → Type 0
StandsWhere disk leads place opened = ForSome opened.place (λ at. StandsAt (told_at disk (leads opened.file)) (place opened.file) at)

-- a file is open that may be read from the place that is kept
abbrev pub IsOpenToRead : {F : Type 0} → Disk → (F → Entry) → (F → ℕ) → List ℕ → Opened F → Type 0
IsOpenToRead disk leads place name opened = IsOpen disk (leads opened.file) name × StandsWhere disk leads place opened

-- what is kept open to be read is the file of its name
abbrev pub IsKeptToRead : {F : Type 0} → Disk → (F → Entry) → (F → ℕ) → Opened F → Type 0
IsKeptToRead disk leads place opened = ForSome opened.name (λ text. IsOpenToRead disk leads place (string_bytes text) opened)

-- what is kept open to be appended to is the file of its name
abbrev pub IsKeptToAppend : {F : Type 0} → Disk → (F → Entry) → Opened F → Type 0
IsKeptToAppend disk leads opened = ForSome opened.name (λ text. IsOpen disk (leads opened.file) (string_bytes text))
