-- Blocks that wait for their lines, as contracts see them.
use Rattle.std.specs.Prelude.{ℕ, ◌≡◌, ◌+◌, ◌*◌, List, [], ◌++◌, length}
use Rattle.definitions.specs.declared.block.Block.{Block}
use Rattle.definitions.specs.declared.block.Span.{Span}
use Rattle.definitions.specs.declared.block.Span.TheVariants.{Year, Day, Hour, Minute}
use Rattle.field_tables.specs.Scored.{Scored}

-- minutes of one hour, hours of one day and days of one year, and the tables that bound them
pub record Waiting : Type 0 where
  pub tables : Scored
  pub minutes : List Block
  pub hours : List Block
  pub days : List Block

-- in the order of their lines
abbrev pub left_of : Waiting → List Block
left_of w = w.minutes ++ (w.hours ++ w.days)

-- A block can be opened where none waits that is as long as its children, or shorter.
abbrev pub CanOpen : Span → Waiting → Type 0
CanOpen Year w = (w.minutes ≡ []) × (w.hours ≡ []) × (w.days ≡ [])
CanOpen Day w = (w.minutes ≡ []) × (w.hours ≡ [])
CanOpen Hour w = w.minutes ≡ []
CanOpen Minute w = Unit {0}

-- the most lines of a block and of all in it: an hour has at most 60 minutes, a day 24 hours, and a year 366 days
abbrev pub most_lines : Span → ℕ
most_lines Year = 536_191
most_lines Day = 1_465
most_lines Hour = 61
most_lines Minute = 1

-- the most lines that come of those that wait
abbrev pub left_most : Waiting → ℕ
left_most w = length w.minutes + (61 * length w.hours + 1_465 * length w.days)
