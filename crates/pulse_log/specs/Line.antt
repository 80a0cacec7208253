-- What one line says.
use Rattle.std.specs.Prelude.{◌≡◌, ℕ, ◌<◌, List}
use Rattle.std.specs.Fmt.{decimal}
use Rattle.definitions.specs.declared.level.Level.{Level}
use Rattle.formats.specs.declared.limits.TheConstants.{TIME_LIMIT}
use Rattle.formats.specs.LogLines.{IsSkipped, IsRecord}
use Rattle.pulse_log.specs.declared.line.Line.{Line}
use Rattle.pulse_log.specs.declared.line.Line.TheVariants.{Skipped, Record, Malformed}

-- the bytes of a time in milliseconds, below 10^12
abbrev pub SpellsTime : List ℕ → ℕ → Type 0
SpellsTime bytes time = (time < TIME_LIMIT) × (bytes ≡ decimal time)

-- an empty line or a comment, a record, or neither
abbrev pub Says : List ℕ → Line → Type 0
Says line Skipped = IsSkipped line
Says line (Record time level) = IsRecord line (time, level)
Says line Malformed = ¬ (IsSkipped line) × ((r : ℕ × Level) → ¬ (IsRecord line r))
