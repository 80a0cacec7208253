-- What `follow` is asked to do, by its words.
use Rattle.std.specs.Prelude.{ℕ, ◌≤◌, List}
use Rattle.formats.specs.declared.words.TheConstants.{LEAST_COUNT, MOST_COUNT, MOST_STEP}
use Rattle.formats.specs.OrderRanges.{IsAsked, IsFile}
use Rattle.bank.specs.Tasks.{AreWorkers}
use Rattle.follow_due.specs.FollowOrders.{AsksFollow, FollowOrder}
use Rattle.follow.specs.declared.words.FollowTask.{FollowTask}

-- what is asked, without how many workers search
abbrev pub order_seen : FollowTask → FollowOrder
order_seen t = record { config = t.config.now; asked = t.asked; step = t.step; count = t.count }

-- the words ask for this
abbrev pub Asks : List (List ℕ) → FollowTask → Type 0
Asks words t = AsksFollow words (order_seen t)

-- a file is named, and numbers are in their ranges
pub record IsInRange (t : FollowTask) : Type 0 where
  pub file : IsFile t.config.now
  pub asked : IsAsked t.asked
  pub workers : AreWorkers t.workers
  pub step : t.step ≤ MOST_STEP
  pub some_window : LEAST_COUNT ≤ t.count
  pub few_windows : t.count ≤ MOST_COUNT
