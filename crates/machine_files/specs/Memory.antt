-- What a machine in memory tells: all that it holds.
use Rattle.std.specs.Prelude.{◌≡◌, ℕ, List, []}
use Rattle.std.specs.declared.io.ErrorKind.{ErrorKind}
use Rattle.bank_files.specs.Told.{Holds}
use Rattle.bank_files.specs.Fault.{raised}
use Rattle.machine_files.specs.Disk.{Absent, Disk, told_at}
use Rattle.machine_files.specs.Calls.{OnlyFile}
use Rattle.machine_files.specs.Stored.{names_of, contents_of, disk_of}
use Rattle.machine_files.specs.declared.memory.MemoryMachine.{MemoryMachine}

-- all that a machine in memory tells
abbrev pub disk_in : MemoryMachine → Disk
disk_in machine = disk_of (names_of machine.files.items) (contents_of machine.files.items) machine.printed.items

-- the number of the latest call
abbrev pub calls_made : MemoryMachine → ℕ
calls_made machine = machine.calls

-- the number of the next call
abbrev pub next_call : MemoryMachine → ℕ
next_call machine = raised (calls_made machine)

-- the failures that are planned, by call
abbrev pub failing_calls : MemoryMachine → List (ℕ × ErrorKind)
failing_calls machine = machine.failing.items

-- a machine without files, of which no call fails
pub record IsFresh (machine : MemoryMachine) : Type 0 where
  pub files : (name : List ℕ) → (disk_in machine).entry name ≡ Absent
  pub output : (disk_in machine).output ≡ Holds []
  pub failing : failing_calls machine ≡ []
  pub calls : calls_made machine ≡ 0

-- a file of this name holds these bytes, and no other changed
pub record Puts (old new : Disk) (name bytes : List ℕ) : Type 0 where
  pub file : told_at new (new.entry name) ≡ Holds bytes
  pub only : OnlyFile old new name
