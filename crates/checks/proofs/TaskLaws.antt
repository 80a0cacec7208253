-- What the words ask is in its ranges.
use Rattle.formats.specs.OrderRanges.{IsInRange as IsOrderInRange}
use Rattle.formats.specs.Orders.Order.{Check}
use Rattle.checks.specs.declared.words.CheckTask.{CheckTask}
use Rattle.checks.specs.Tasks.{IsInRange}

pub task_in_range : (t : CheckTask) → IsOrderInRange (Check t.config.now t.certificate.now t.asked) → IsInRange t
task_in_range t is = record { config = is.0; certificate = is.1; asked = is.2 }
