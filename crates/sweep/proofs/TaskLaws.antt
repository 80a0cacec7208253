-- What the words ask is in its ranges.
use Rattle.std.proofs.Common.{ℕ, List, Option, Some}
use Rattle.formats.specs.OrderRanges.{IsInRange as IsOrderInRange}
use Rattle.formats.specs.Orders.Order.{Sweep}
use Rattle.sweep.specs.declared.words.SweepCertify.{SweepCertify}
use Rattle.sweep.specs.declared.words.SweepTask.{SweepTask}
use Rattle.sweep.specs.Tasks.{IsCertifyInRange, IsInRange}

pub task_in_range : (t : SweepTask) (certificate : Option (List ℕ)) → IsOrderInRange (Sweep t.config.now t.asked t.workers certificate) → IsInRange t
task_in_range t certificate is = record { file = is.0; asked = is.1; workers = is.2 }

pub certify_in_range : (c : SweepCertify) → IsOrderInRange (Sweep c.task.config.now c.task.asked c.task.workers (Some c.name.now)) → IsCertifyInRange c
certify_in_range c is = record { task = record { file = is.0; asked = is.1; workers = is.2 }; name = is.3 }
