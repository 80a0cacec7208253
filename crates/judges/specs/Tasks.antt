-- What `judge` is asked to do, by its words.
use Rattle.std.specs.Prelude.{ℕ, List}
use Rattle.formats.specs.OrderRanges.{IsAsked, IsFile}
use Rattle.sweep_due.specs.JudgeRules.{AsksJudge, JudgeOrder}
use Rattle.judges.specs.declared.words.JudgeTask.{JudgeTask}

-- what is asked
abbrev pub order_seen : JudgeTask → JudgeOrder
order_seen t = record { config = t.config.now; name = t.name.now; asked = t.asked }

-- the words ask for this
abbrev pub Asks : List (List ℕ) → JudgeTask → Type 0
Asks words t = AsksJudge words (order_seen t)

-- files are named, and numbers are in their ranges
pub record IsInRange (t : JudgeTask) : Type 0 where
  pub config : IsFile t.config.now
  pub name : IsFile t.name.now
  pub asked : IsAsked t.asked
