-- What a machine tells of its disk: where names lead, what files hold, and what standard output has got.
use Rattle.std.specs.Prelude.{ℕ, List}
use Rattle.bank_files.specs.Told.{Told, Untold, Missing}

-- Where a name leads, and an open file: nothing is told of it, there is no such file, or to the inode of this number.
pub data Entry : Type 0 where
  Unknown : Entry
  Absent : Entry
  Inode : (number : ℕ) → Entry

-- what a machine tells: where each name leads, what each inode holds, and what standard output has got
pub record Disk : Type 0 where
  pub entry : List ℕ → Entry
  pub inode : ℕ → Told
  pub output : Told

-- what is told of the file to which an entry leads
abbrev pub told_at : Disk → Entry → Told
told_at disk Unknown = Untold
told_at disk Absent = Missing
told_at disk (Inode number) = disk.inode number
