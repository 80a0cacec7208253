-- What is seen of files, and how a call or a run of calls changes it.
use Rattle.std.specs.Prelude.{◌≡◌, ◌≢◌, ℕ, ◌≤◌, List, Result, OnOk, OnErr}
use Rattle.bank_files.specs.Told.{Told, Tells, appended, AppendsFront}
use Rattle.bank_files.specs.Fault.{HasFault}

-- what is told of each name, and how often reading and writing the file of that name has failed
pub record Seen : Type 0 where
  pub told : List ℕ → Told
  pub read_faults : List ℕ → ℕ
  pub write_faults : List ℕ → ℕ

-- no count of faults fell
pub record KeepsCounts (old new : Seen) : Type 0 where
  pub of_reads : (name : List ℕ) → old.read_faults name ≤ new.read_faults name
  pub of_writes : (name : List ℕ) → old.write_faults name ≤ new.write_faults name

-- every count of faults is as before
pub record SameCounts (old new : Seen) : Type 0 where
  pub of_reads : new.read_faults ≡ old.read_faults
  pub of_writes : new.write_faults ≡ old.write_faults

-- reading the file of this name failed: its count rose, or stands at its greatest
abbrev pub ReadFails : List ℕ → Seen → Seen → Type 0
ReadFails name old new = HasFault (old.read_faults name) (new.read_faults name)

-- writing the file of this name failed
abbrev pub WriteFails : List ℕ → Seen → Seen → Type 0
WriteFails name old new = HasFault (old.write_faults name) (new.write_faults name)

-- A call, or a run of calls, that only reads: all that is told is as before, and no count fell.
pub record OnlyReads (old new : Seen) : Type 0 where
  pub told : new.told ≡ old.told
  pub counts : KeepsCounts old new

-- A call, or a run of calls, that writes this file alone: every other is as before, as far as it is told afterwards, and no count fell.
pub record OnlyWrites (name : List ℕ) (old new : Seen) : Type 0 where
  pub others : (other : List ℕ) → other ≢ name → Tells (old.told other) (new.told other)
  pub counts : KeepsCounts old new

-- A text is written at the end of the file of this name. Where that succeeded, the whole text is there, and no count rose. Where it failed, a front of the text is there, and the file's count of write faults tells of it.
pub record Writes {E : Type 0} (name : List ℕ) (old new : Seen) (text : List ℕ) (result : Result (Unit {0}) E) : Type 0 where
  pub whole : OnOk result (Tells (appended (old.told name) text) (new.told name))
  pub front : OnErr result (AppendsFront (old.told name) text (new.told name))
  pub cause : OnErr result (WriteFails name old new)
  pub same_counts : OnOk result (SameCounts old new)
  pub only : OnlyWrites name old new
