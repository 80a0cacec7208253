-- What words ask of `follow`, and what is refused of them.
use Rattle.std.specs.Prelude.{ℕ, ◌≡◌, List, Ok, Err}
use Rattle.signal_base.specs.declared.window.Window.{Window}
use Rattle.formats.specs.declared.words.Asked.{Asked}
use Rattle.formats.specs.declared.words.WordFault.TheVariants.{Usage}
use Rattle.formats.specs.Orders.{Order, Checked, ◌>>=◌, order_of}
use Rattle.formats.specs.Orders.Order.{Follow}
use Rattle.formats.specs.Words.{reach_commands}
use Rattle.due.specs.Banks.{Bank, window_of}
use Rattle.follow_due.specs.Windows.{windows_from}

-- Of the orders beyond a run, that of `follow`. Any other is refused, as words are that no command takes.
abbrev pub of_follow : Order → Checked Order
of_follow (Follow config asked workers step count) = Ok (Follow config asked workers step count)
of_follow other = Err Usage

-- what the words ask for, or why they are refused
abbrev pub follow_order_in : List (List ℕ) → Checked Order
follow_order_in words = order_of reach_commands words >>= of_follow

-- what is asked: the configuration's file, the first window, how many seconds each window starts after the one before, and how many
-- windows there are
pub record FollowOrder : Type 0 where
  pub config : List ℕ
  pub asked : Asked
  pub step : ℕ
  pub count : ℕ

-- The words ask this. How many workers search doesn't matter.
abbrev pub AsksFollow : List (List ℕ) → FollowOrder → Type 0
AsksFollow words o = (workers : ℕ) × (follow_order_in words ≡ Ok (Follow o.config o.asked workers o.step o.count))

-- the first window, which is the one of a decode, and all of them
abbrev pub first_window : FollowOrder → Bank → Window
first_window o bank = window_of o.asked bank.receivers

abbrev pub followed_windows : FollowOrder → Bank → List Window
followed_windows o bank = windows_from (first_window o bank) o.step o.count
