-- What can be reported and summed up.
use Rattle.std.specs.Prelude.{◌<◌, ◌≤◌}
use Rattle.signal_base.specs.declared.window.Window.{Window}
use Rattle.definitions.specs.declared.answer.Answer.{Answer}
use Rattle.definitions.specs.declared.answer.Answer.TheVariants.{Nothing, Decided, Undecided}
use Rattle.definitions.specs.sequences.Walks.{IsSequence, IsWalkable}
use Rattle.formats.specs.declared.limits.TheConstants.{TIME_LIMIT}
use Rattle.signal_base.specs.declared.limits.TheConstants.{MOST_SECONDS}

-- the window's numbers are in their ranges, and the answer's sequences are walkable in it
abbrev pub IsReportable : Window → Answer → Type 0
IsReportable window Nothing = Unit {0}
IsReportable window (Decided c q next) = (window.start < TIME_LIMIT) × (window.seconds ≤ MOST_SECONDS) × IsSequence q × IsWalkable window q
IsReportable window (Undecided c q r) = IsSequence q × IsSequence r

-- the answer's sequences have a first minute of the century and a first second
abbrev pub NamesSequences : Answer → Type 0
NamesSequences Nothing = Unit {0}
NamesSequences (Decided c q next) = IsSequence q
NamesSequences (Undecided c q r) = IsSequence q × IsSequence r
