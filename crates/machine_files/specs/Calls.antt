-- What the calls of a machine change. `old` and `new` are what the machine tells before and after a call.
use Rattle.std.specs.Prelude.{◌≡◌, ◌≢◌, ◌≤◌, ℕ, Bool, true, false, ◌==◌, ◌&&◌, nat_lt, List, [], length, Result, Ok, Err, OnErr}
use Rattle.bank_files.specs.Told.{Told, Untold, Holds, emptied, appended}
use Rattle.bank_files.specs.Fault.{HasFault}
use Rattle.machine_files.specs.Disk.{Entry, Absent, Disk, told_at}

-- A file was opened by a name: the file is there, it leads where the name leads, and it stands at its start.
pub record Opens (name leads : Entry) (place : ℕ) : Type 0 where
  pub there : name ≢ Absent
  pub same : leads ≡ name
  pub start : place ≡ 0

-- A call changed at most the file of this name: every other name leads where it led, to what it led to, and standard output is as before.
pub record OnlyFile (old new : Disk) (name : List ℕ) : Type 0 where
  pub entries : (other : List ℕ) → other ≢ name → new.entry other ≡ old.entry other
  pub files : (other : List ℕ) → other ≢ name → told_at new (old.entry other) ≡ told_at old (old.entry other)
  pub output : new.output ≡ old.output

-- A file of this name is there: where it was, nothing changed, and where it was missing, it was made empty.
pub record Makes (old new : Disk) (name : List ℕ) : Type 0 where
  pub stays : old.entry name ≢ Absent → new ≡ old
  pub made : old.entry name ≡ Absent → told_at new (new.entry name) ≡ Holds []
  pub only : OnlyFile old new name

-- The file of this name is empty. Whether the name leads to the inode that it led to is left open.
pub record Empties (old new : Disk) (name : List ℕ) : Type 0 where
  pub file : told_at new (new.entry name) ≡ emptied (told_at old (old.entry name))
  pub only : OnlyFile old new name

-- A piece is at the end of the file to which this entry leads, and all else is as before.
pub record Adds (old new : Disk) (entry : Entry) (piece : List ℕ) : Type 0 where
  pub entries : new.entry ≡ old.entry
  pub file : told_at new entry ≡ appended (told_at old entry) piece
  pub others : (other : Entry) → other ≢ entry → told_at new other ≡ told_at old other
  pub output : new.output ≡ old.output

-- A piece is at the end of what standard output has got, and all else is as before.
pub record Prints (old new : Disk) (piece : List ℕ) : Type 0 where
  pub entries : new.entry ≡ old.entry
  pub inodes : new.inode ≡ old.inode
  pub output : new.output ≡ appended old.output piece

-- an open file stands at this place, unless nothing is told of it
abbrev pub StandsAt : Told → ℕ → ℕ → Type 0
StandsAt told place at = told ≢ Untold → place ≡ at

-- the call failed, was interrupted, or took nothing of a piece that isn't empty
abbrev pub takes_nothing : {E : Type 0} → Result ℕ E → List ℕ → Bool
takes_nothing (Ok n) piece = (n == 0) && nat_lt 0 (length piece)
takes_nothing (Err e) piece = true

-- Over one call the count of failures doesn't fall. It rises where the call failed, and nowhere else.
pub record Counts (old new : ℕ) (failed : Bool) : Type 0 where
  pub no_less : old ≤ new
  pub failure : failed ≡ true → HasFault old new
  pub success : failed ≡ false → new ≡ old

-- Over some calls the count of failures doesn't fall, and it rises where they end in a failure.
pub record Tries {T E : Type 0} (old new : ℕ) (result : Result T E) : Type 0 where
  pub no_less : old ≤ new
  pub failure : OnErr result (HasFault old new)

-- All that is there stays what it is: a name that leads to a file leads there still, and of what nothing was told, nothing is told.
pub record Stays (old new : Disk) : Type 0 where
  pub entries : (name : List ℕ) → old.entry name ≢ Absent → new.entry name ≡ old.entry name
  pub untold : (name : List ℕ) → told_at old (old.entry name) ≡ Untold → told_at new (old.entry name) ≡ Untold
