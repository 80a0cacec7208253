-- What words ask of `judge`, and what is refused of them.
use Rattle.std.specs.Prelude.{ℕ, List, Ok, Err}
use Rattle.formats.specs.declared.words.WordFault.TheVariants.{Usage}
use Rattle.formats.specs.Orders.{Order, Checked, ◌>>=◌, order_of}
use Rattle.formats.specs.Orders.Order.{Judge}
use Rattle.formats.specs.Words.{reach_commands}

-- Of the orders beyond a run, that of `judge`. Any other is refused.
abbrev pub of_judge : Order → Checked Order
of_judge (Judge config name asked) = Ok (Judge config name asked)
of_judge other = Err Usage

-- what the words ask for, or why they are refused
abbrev pub judge_order_in : List (List ℕ) → Checked Order
judge_order_in words = order_of reach_commands words >>= of_judge
