-- What the words ask is in its ranges.
use Rattle.formats.specs.OrderRanges.{IsInRange as IsOrderInRange}
use Rattle.formats.specs.Orders.Order.{Follow}
use Rattle.follow.specs.declared.words.FollowTask.{FollowTask}
use Rattle.follow.specs.Tasks.{IsInRange}

pub task_in_range : (t : FollowTask) → IsOrderInRange (Follow t.config.now t.asked t.workers t.step t.count) → IsInRange t
task_in_range t (file, asked, workers, step, count) = record {
  file = file;
  asked = asked;
  workers = workers;
  step = step.1;
  some_window = count.0;
  few_windows = count.1;
}
