-- What is seen of files in memory: contents, the calls that are to fail, and counts.
use Rattle.std.specs.Prelude.{◌≡◌, ◌≢◌, ◌⊎◌, ◌<◌, ◌≤◌, ◌-◌, ◌++◌, length, take, drop, min, ℕ, Bool, List, [], Option, None, Some, Contains, if◌then◌else◌}
use Rattle.std.specs.Str.{bytes_eq}
use Rattle.bank_files.specs.declared.memory.MemoryFiles.{MemoryFiles}
use Rattle.bank_files.specs.Told.{Told, Missing, Holds, output_name}
use Rattle.bank_files.specs.Fault.{greatest, raised}
use Rattle.bank_files.specs.Seen.{Seen}
use Rattle.bank_files.specs.Stored.{bytes_of}

-- what a file holds
abbrev pub contents_of : MemoryFiles → List ℕ → Option (List ℕ)
contents_of memory name = if bytes_eq name output_name then Some memory.output.items else bytes_of memory.files name

-- files in memory tell each name
abbrev pub told_of : Option (List ℕ) → Told
told_of None = Missing
told_of (Some bytes) = Holds bytes

-- what is told of a name: all there is to tell
abbrev pub told_by : MemoryFiles → List ℕ → Told
told_by memory name = told_of (contents_of memory name)

-- the numbers of the calls that are to fail
abbrev pub failing_calls : MemoryFiles → List ℕ
failing_calls memory = memory.failing.items

-- the number of the latest call
abbrev pub calls_made : MemoryFiles → ℕ
calls_made memory = memory.calls

-- how many calls have failed
abbrev pub faults_of : MemoryFiles → ℕ
faults_of memory = memory.faults

-- what is told, and the one count of faults, which serves for every name
abbrev pub seen_by : MemoryFiles → Seen
seen_by memory = record { told = told_by memory; read_faults = λ _. faults_of memory; write_faults = λ _. faults_of memory }

-- standard output is told as a file that is there
pub output_told : (memory : MemoryFiles) → (seen_by memory).told output_name ≢ Missing
output_told memory = λ h. cc

-- how many calls were given up for want of memory
abbrev pub starved_of : MemoryFiles → ℕ
starved_of memory = memory.starved

-- the number of the next call
abbrev pub next_call : MemoryFiles → ℕ
next_call memory = raised (calls_made memory)

-- the next call is on the list of those that are to fail
abbrev pub IsListed : MemoryFiles → Type 0
IsListed memory = Contains (failing_calls memory) (next_call memory)

-- A call is given up: it is on the list, the count of those without memory rose, or that count stands at its greatest.
abbrev pub IsGivenUp : MemoryFiles → MemoryFiles → Type 0
IsGivenUp old new = IsListed old ⊎ ((starved_of old < starved_of new) ⊎ (starved_of new ≡ greatest))

-- what a call that failed or not does to the list and to the counts, but for that of the calls without memory
pub record CountsCall (old new : MemoryFiles) (failed : Bool) : Type 0 where
  pub failing : failing_calls new ≡ failing_calls old
  pub calls : calls_made new ≡ next_call old
  pub faults : faults_of new ≡ (if failed then raised (faults_of old) else faults_of old)
  pub no_less : faults_of old ≤ faults_of new

-- at most one call more was without memory, and none that is on the list
abbrev pub StarvesOnce : MemoryFiles → MemoryFiles → Type 0
StarvesOnce old new = (starved_of new ≡ starved_of old) ⊎ ((starved_of new ≡ raised (starved_of old)) × (IsListed old → ⊥))

-- what is counted is as before
pub record SameTally (old new : MemoryFiles) : Type 0 where
  pub calls : calls_made new ≡ calls_made old
  pub faults : faults_of new ≡ faults_of old
  pub starved : starved_of new ≡ starved_of old

-- an empty standard output and no other file, no call to fail, and no call made
pub record IsFresh (memory : MemoryFiles) : Type 0 where
  pub output : contents_of memory output_name ≡ Some []
  pub others : (name : List ℕ) → name ≢ output_name → contents_of memory name ≡ None
  pub failing : failing_calls memory ≡ []
  pub calls : calls_made memory ≡ 0
  pub faults : faults_of memory ≡ 0
  pub starved : starved_of memory ≡ 0
