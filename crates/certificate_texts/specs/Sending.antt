-- A text that is written in pieces: a part of it is in the file, and the rest is held back.
use Rattle.std.specs.Prelude.{ℕ, ◌≡◌, List, ◌++◌}
use Rattle.bank_files.specs.Told.{Tells, appended, AppendsFront}
use Rattle.bank_files.specs.Seen.{Seen, OnlyWrites, SameCounts, WriteFails}

-- the text is at the end of the file
pub record WritesWhole (name : List ℕ) (old new : Seen) (text : List ℕ) : Type 0 where
  pub whole : Tells (appended (old.told name) text) (new.told name)
  pub same_counts : SameCounts old new
  pub only : OnlyWrites name old new

-- a front of the text is there, and then writing failed
pub record WritesFront (name : List ℕ) (old new : Seen) (text : List ℕ) : Type 0 where
  pub front : AppendsFront (old.told name) text (new.told name)
  pub cause : WriteFails name old new
  pub only : OnlyWrites name old new

-- the text but for what is held back is there
pub record IsSent (name : List ℕ) (old new : Seen) (held text : List ℕ) : Type 0 where
  pub sent : List ℕ
  pub writes : WritesWhole name old new sent
  pub joined : sent ++ held ≡ text
