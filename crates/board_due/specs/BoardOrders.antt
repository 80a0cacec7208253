-- What words ask of `board`, and what is refused of them.
use Rattle.std.specs.Prelude.{ℕ, ◌≡◌, List, Ok, Err}
use Rattle.formats.specs.declared.words.WordFault.TheVariants.{Usage}
use Rattle.formats.specs.Orders.{Order, Checked, ◌>>=◌, order_of}
use Rattle.formats.specs.Orders.Order.{Board}
use Rattle.formats.specs.Words.{reach_commands}
use Rattle.follow_due.specs.FollowOrders.{FollowOrder}

-- Of the orders beyond a run, that of `board`. Any other is refused, as words are that no command takes.
abbrev pub of_board : Order → Checked Order
of_board (Board config queries asked workers step count readers) = Ok (Board config queries asked workers step count readers)
of_board other = Err Usage

-- what the words ask for, or why they are refused
abbrev pub board_order_in : List (List ℕ) → Checked Order
board_order_in words = order_of reach_commands words >>= of_board

-- what is asked: what following a log asks, the file of the queries, and how many askers there are
pub record BoardOrder : Type 0 where
  pub follow : FollowOrder
  pub queries : List ℕ
  pub readers : ℕ

-- The words ask this. How many workers search doesn't matter.
abbrev pub AsksBoard : List (List ℕ) → BoardOrder → Type 0
AsksBoard words o =
    (workers : ℕ) × (board_order_in words
    ≡ Ok (Board o.follow.config o.queries o.follow.asked workers o.follow.step o.follow.count o.readers))
