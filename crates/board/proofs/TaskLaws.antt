-- What the words ask is in its ranges.
use Rattle.formats.specs.OrderRanges.{IsInRange as IsOrderInRange}
use Rattle.formats.specs.Orders.Order.{Board}
use Rattle.board.specs.declared.words.BoardTask.{BoardTask}
use Rattle.board.specs.Tasks.{IsInRange}

pub task_in_range : (t : BoardTask) → IsOrderInRange (Board t.config.now t.queries.now t.asked t.workers t.step t.count t.readers) → IsInRange t
task_in_range t (file, queries, asked, workers, step, count, readers) = record {
  file = file;
  queries = queries;
  asked = asked;
  workers = workers;
  step = step.1;
  some_window = count.0;
  few_windows = count.1;
  some_reader = readers.0;
  few_readers = readers.1;
}
