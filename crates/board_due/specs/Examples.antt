-- What examples of `board` are about.
use Rattle.std.specs.Prelude.{ℕ, Some, List, [], ◌∷◌, codes}
use Rattle.definitions.specs.declared.answer.Answer.TheVariants as answers
use Rattle.definitions.specs.examples.Sequences.{from_place}
use Rattle.board_entries.specs.Examples.{in_june}
use Rattle.formats.specs.declared.words.Asked.{Asked}
use Rattle.follow_due.specs.Examples.{open_told, order_of_k, told_of, two_minutes}
use Rattle.follow_due.specs.declared.window_report.WindowReport.{WindowReport}
use Rattle.board_due.specs.BoardOrders.{BoardOrder}
-- the digits of a number, which examples open by this name
pub use Rattle.std.specs.Fmt.{digits}

-- three windows of two minutes, of which the second isn't decided
abbrev pub three_reports : List WindowReport
three_reports =
    told_of (two_minutes 0) (answers.Decided 0 (from_place (in_june 6 16) 0) (Some 1200))
    ∷ open_told (two_minutes 60_000) (answers.Undecided 0 (from_place 0 0) (from_place 1 0))
    ∷ told_of (two_minutes 120_000) (answers.Decided 7 (from_place (in_june 6 18) 0) (Some 9)) ∷ []

-- queries in the two windows of `board_entries`' examples, at their end and behind them
abbrev pub four_queries : List ℕ
four_queries = 0 ∷ 60_000 ∷ 179_999 ∷ 180_000 ∷ []

-- what is asked of a configuration k.toml and of queries in q.txt
abbrev pub order_of_q : Asked → ℕ → ℕ → ℕ → BoardOrder
order_of_q asked step count readers = record { follow = order_of_k asked step count; queries = codes "q.txt"; readers = readers }
