-- What reading a log owes, and which line a fault names.
use Rattle.std.specs.Prelude.{◌≡◌, ℕ, List, Option, Some, None, IfSome, Result, Ok, Err}
use Rattle.definitions.specs.heard.Logs.{Records}
use Rattle.formats.specs.declared.fault.LineFault.{LineFault}
use Rattle.formats.specs.declared.fault.LineFault.TheVariants as lines
use Rattle.formats.specs.LogLines.{IsRefused}
use Rattle.pulse_log.specs.declared.fault.LogFault.{LogFault}
use Rattle.pulse_log.specs.declared.fault.LogFault.TheVariants.{Shape, NotRising, TooManyRecords, NoMemory}

-- the line that a fault names, and how it is bad; want of memory names none
abbrev pub bad_line_of : LogFault → Option (ℕ × LineFault)
bad_line_of (Shape line) = Some (line, lines.Shape)
bad_line_of (NotRising line) = Some (line, lines.NotRising)
bad_line_of (TooManyRecords line) = Some (line, lines.TooManyRecords)
bad_line_of NoMemory = None

-- the line that a fault names is the first bad one of the text, and bad in this way
abbrev pub IsFaultOf : List ℕ → LogFault → Type 0
IsFaultOf text fault = IfSome (bad_line_of fault) (λ bad. IsRefused text bad.0 bad.1)

-- the log was read, or memory ran out
abbrev pub HasReadLog : Result Records LogFault → Records → Type 0
HasReadLog (Ok log) owed = log ≡ owed
HasReadLog (Err fault) owed = fault ≡ NoMemory

-- this line is named, and how it is bad, or memory ran out
abbrev pub HasRefusedLine : Result Records LogFault → ℕ → LineFault → Type 0
HasRefusedLine (Ok log) line fault = ⊥
HasRefusedLine (Err found) line fault = IfSome (bad_line_of found) (λ bad. (bad.0 ≡ line) × (bad.1 ≡ fault))
