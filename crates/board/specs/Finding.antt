-- What can be found due of `board`.
use Rattle.std.specs.Prelude.{ℕ, ◌≡◌, ◌<◌, ◌≤◌, List, length, slice_index}
use Rattle.board_entries.specs.Board.{PlainEntry}
use Rattle.bank.specs.Finding.{CanBeWritten as IsToBeTold}
use Rattle.board_due.specs.declared.board_due.BoardDue.{BoardDue}
use Rattle.board_due.specs.declared.board_due.BoardDue.TheVariants.{Answers, BadLine, Told, TooLarge}

-- each query has a count, which isn't above the number of entries
pub record AreAnswerable (entries : List PlainEntry) (queries counts : List ℕ) : Type 0 where
  pub each : length counts ≡ length queries
  pub most : (n : ℕ) → n < length counts → slice_index counts n ≤ length entries

-- its text can be written
abbrev pub CanBeWritten : BoardDue → Type 0
CanBeWritten (Told due) = IsToBeTold due
CanBeWritten TooLarge = Unit {0}
CanBeWritten (BadLine line) = Unit {0}
CanBeWritten (Answers entries queries counts) = AreAnswerable entries queries counts
