-- The number of each status.
use Rattle.std.specs.Prelude.{ℕ}
use Rattle.due.specs.declared.status.Status.{Status}
use Rattle.due.specs.declared.status.Status.TheVariants.{Done, Undecided, Nothing, BadWords, BadConfiguration, BadLog, Failed, NoMemory, BadCertificate, BadQueries, BadFrames}

abbrev pub code_of : Status → ℕ
code_of Done = 0
code_of Undecided = 1
code_of Nothing = 2
code_of BadWords = 3
code_of BadConfiguration = 4
code_of BadLog = 5
code_of Failed = 6
code_of NoMemory = 7
code_of BadCertificate = 8
code_of BadQueries = 9
code_of BadFrames = 10
