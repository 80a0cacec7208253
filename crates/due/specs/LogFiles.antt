-- The logs that a run reads. Each is read and then judged, in the order of their receivers, so that the first bad
-- one decides.
use Rattle.std.specs.Prelude.{ℕ, ◌≡◌, ◌<◌, ◌≤◌, ◌⊎◌, List, [], ◌∷◌, length}
use Rattle.definitions.specs.heard.Logs.{Records}
use Rattle.formats.specs.declared.limits.TheConstants.{LOG_LIMIT}
use Rattle.formats.specs.declared.fault.LineFault.{LineFault}
use Rattle.formats.specs.declared.refusal.Refusal.{Refusal}
use Rattle.formats.specs.declared.refusal.Refusal.TheVariants.{LogTooLarge, LogLine}
use Rattle.formats.specs.LogLines.{IsLog, IsRefused}
use Rattle.due.specs.Inputs.{Contents, Input, LogOf}

-- a log that is read: the number of its receiver, from 1, the receiver's name and the file's
pub record LogFile : Type 0 where
  pub receiver : ℕ
  pub name : List ℕ
  pub file : List ℕ

-- these bytes are a log of these records
pub record IsGood (bytes : List ℕ) (log : Records) : Type 0 where
  pub fits : length bytes ≤ LOG_LIMIT
  pub is_log : IsLog bytes log

-- the log's bytes are refused so: for their number, or else for the first bad line
pub data IsBad (log : LogFile) (bytes : List ℕ) (refusal : Refusal) : Type 0 where
  Too_large : LOG_LIMIT < length bytes → refusal ≡ LogTooLarge log.receiver log.name → IsBad log bytes refusal
  Bad_line : length bytes ≤ LOG_LIMIT → (number : ℕ) → (fault : LineFault) → IsRefused bytes number fault
      → refusal ≡ LogLine log.receiver log.name number fault → IsBad log bytes refusal

-- all logs are good, of these records
abbrev pub AreGood : Contents → List LogFile → List Records → Type 0
AreGood contents [] records = records ≡ []
AreGood contents (log ∷ logs) [] = ⊥
AreGood contents (log ∷ logs) (first ∷ rest) = IsGood (contents (LogOf log.receiver)) first × AreGood contents logs rest

-- the first bad log is refused so
abbrev pub IsFirstBad : Contents → List LogFile → Refusal → Type 0
IsFirstBad contents [] refusal = ⊥
IsFirstBad contents (log ∷ logs) refusal =
    IsBad log (contents (LogOf log.receiver)) refusal
    ⊎ ((records : Records) × IsGood (contents (LogOf log.receiver)) records × IsFirstBad contents logs refusal)

-- this file is read as this input: it is the log of a receiver, and all before it are good
abbrev pub IsLogRead : Contents → List LogFile → Input → List ℕ → Type 0
IsLogRead contents [] input file = ⊥
IsLogRead contents (log ∷ logs) input file =
    ((input ≡ LogOf log.receiver) × (file ≡ log.file))
    ⊎ ((records : Records) × IsGood (contents (LogOf log.receiver)) records × IsLogRead contents logs input file)
