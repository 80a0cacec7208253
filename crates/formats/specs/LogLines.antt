-- The grammar of a log, as a relation on the list of its lines.
use Rattle.std.specs.Prelude.{ℕ, ◌≡◌, ◌+◌, ◌<◌, ◌≤◌, ◌==◌, ◌⊎◌, if◌then◌else◌, List, [], ◌∷◌, ◌++◌, length}
use Rattle.std.specs.Fmt.{decimal}
use Rattle.definitions.specs.declared.level.Level.{Level}
use Rattle.definitions.specs.declared.level.Level.TheVariants.{High, Low, Unknown}
use Rattle.definitions.specs.heard.Logs.{Record, Records, time_of, level_of}
use Rattle.formats.specs.declared.limits.TheConstants.{MOST_RECORDS, TIME_LIMIT}
use Rattle.formats.specs.declared.fault.LineFault.{LineFault}
use Rattle.formats.specs.declared.fault.LineFault.TheVariants.{Shape, NotRising, TooManyRecords}
use Rattle.formats.specs.Bytes.{line_feed, carriage_return, number_sign, space, letter_h, letter_l, letter_x}

-- the byte onto the first of the lines
abbrev pub onto_first : ℕ → List (List ℕ) → List (List ℕ)
onto_first b [] = (b ∷ []) ∷ []
onto_first b (l ∷ ls) = (b ∷ l) ∷ ls

-- the lines of a text: each ends with LF, the last may lack it
abbrev pub lines_of : List ℕ → List (List ℕ)
lines_of [] = []
lines_of (b ∷ bs) = if b == line_feed then [] ∷ lines_of bs else onto_first b (lines_of bs)

-- a line without the CR at its end
abbrev pub without_cr : List ℕ → List ℕ
without_cr [] = []
without_cr (b ∷ []) = if b == carriage_return then [] else b ∷ []
without_cr (b ∷ c ∷ bs) = b ∷ without_cr (c ∷ bs)

-- an empty line or a comment, which begins with a #
abbrev pub IsSkipped : List ℕ → Type 0
IsSkipped line = (without_cr line ≡ []) ⊎ ((bs : List ℕ) × (without_cr line ≡ number_sign ∷ bs))

-- the letter of a level
abbrev pub letter : Level → ℕ
letter High = letter_h
letter Low = letter_l
letter Unknown = letter_x

-- the bytes of a record: the time in milliseconds, below 10^12, a space and the letter
abbrev pub SpellsRecord : List ℕ → Record → Type 0
SpellsRecord bytes r = (time_of r < TIME_LIMIT) × (bytes ≡ decimal (time_of r) ++ space ∷ letter (level_of r) ∷ [])

-- a record's line
abbrev pub IsRecord : List ℕ → Record → Type 0
IsRecord line r = SpellsRecord (without_cr line) r

-- the time is above that of the last of the records
abbrev pub IsLater : Records → ℕ → Type 0
IsLater [] time = Unit {0}
IsLater (r ∷ []) time = time_of r < time
IsLater (r ∷ s ∷ rs) time = IsLater (s ∷ rs) time

-- Reading the lines after the records so far gives all these records.
abbrev pub ReadsOn : Records → List (List ℕ) → Records → Type 0
ReadsOn before [] records = records ≡ before
ReadsOn before (line ∷ lines) records =
    (IsSkipped line × ReadsOn before lines records)
    ⊎ ((r : Record) × IsRecord line r × IsLater before (time_of r) × (length before < MOST_RECORDS)
    × ReadsOn (before ++ r ∷ []) lines records)

-- the text is a log of these records
abbrev pub IsLog : List ℕ → Records → Type 0
IsLog text records = ReadsOn [] (lines_of text) records

-- the line is bad in this way after these records
abbrev pub IsBad : Records → List ℕ → LineFault → Type 0
IsBad before line Shape = ¬ (IsSkipped line) × ((r : Record) → ¬ (IsRecord line r))
IsBad before line NotRising = (r : Record) × IsRecord line r × ¬ (IsLater before (time_of r))
IsBad before line TooManyRecords =
    (r : Record) × IsRecord line r × IsLater before (time_of r) × (MOST_RECORDS ≤ length before)

-- the first bad line of the text has this number, counted from 1, and is bad in this way
pub record IsRefused (text : List ℕ) (line_number : ℕ) (fault : LineFault) : Type 0 where
  pub front : List (List ℕ)
  pub line : List ℕ
  pub back : List (List ℕ)
  pub records : Records
  pub lines : lines_of text ≡ front ++ line ∷ back
  pub number : line_number ≡ length front + 1
  pub good : ReadsOn [] front records
  pub bad : IsBad records line fault

-- the text is a log, or it is refused for its first bad line
abbrev pub HasOutcome : List ℕ → Type 0
HasOutcome text =
    ((log : Records) × IsLog text log)
    ⊎ ((line_number : ℕ) × (fault : LineFault) × IsRefused text line_number fault)
