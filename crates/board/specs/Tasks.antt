-- What `board` is asked to do, by its words.
use Rattle.std.specs.Prelude.{ℕ, ◌≤◌, List}
use Rattle.clock_board.specs.declared.board.TheConstants.{MOST_READERS}
use Rattle.formats.specs.declared.words.TheConstants.{LEAST_COUNT, MOST_COUNT, MOST_STEP}
use Rattle.formats.specs.OrderRanges.{IsAsked, IsFile}
use Rattle.bank.specs.Tasks.{AreWorkers}
use Rattle.board_due.specs.BoardOrders.{AsksBoard, BoardOrder}
use Rattle.board.specs.declared.words.BoardTask.{BoardTask}

-- what is asked, without how many workers search
abbrev pub order_seen : BoardTask → BoardOrder
order_seen t =
    record {
      follow = record { config = t.config.now; asked = t.asked; step = t.step; count = t.count };
      queries = t.queries.now;
      readers = t.readers;
    }

-- the words ask for this
abbrev pub Asks : List (List ℕ) → BoardTask → Type 0
Asks words t = AsksBoard words (order_seen t)

-- files are named, and numbers are in their ranges
pub record IsInRange (t : BoardTask) : Type 0 where
  pub file : IsFile t.config.now
  pub queries : IsFile t.queries.now
  pub asked : IsAsked t.asked
  pub workers : AreWorkers t.workers
  pub step : t.step ≤ MOST_STEP
  pub some_window : LEAST_COUNT ≤ t.count
  pub few_windows : t.count ≤ MOST_COUNT
  pub some_reader : 1 ≤ t.readers
  pub few_readers : t.readers ≤ MOST_READERS
