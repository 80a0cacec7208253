-- What words ask of `check`, and what is refused of them.
use Rattle.std.specs.Prelude.{ℕ, List, Ok, Err}
use Rattle.formats.specs.declared.words.WordFault.TheVariants.{Usage}
use Rattle.formats.specs.Orders.{Order, Checked, ◌>>=◌, order_of}
use Rattle.formats.specs.Orders.Order.{Check}
use Rattle.formats.specs.Words.{run_commands}

-- Of the orders of a run, that of `check`. Any other is refused.
abbrev pub of_check : Order → Checked Order
of_check (Check config certificate asked) = Ok (Check config certificate asked)
of_check other = Err Usage

-- what the words ask for, or why they are refused
abbrev pub check_order_in : List (List ℕ) → Checked Order
check_order_in words = order_of run_commands words >>= of_check
