-- What the words ask of `check` is what their order asks.
use Rattle.std.proofs.Common.{Ok, ap, ◌∙◌, subst}
use Rattle.formats.specs.OrderRanges.{IsInRange as IsOrderInRange}
use Rattle.bank_words.specs.declared.order.Order.{Order}
use Rattle.bank_words.specs.Seen.{order_seen}
use Rattle.checks.proofs.TaskLaws.{task_in_range}
use Rattle.checks.proofs.words.task_of.Goals as goal

pub returns-in-Check-clause-task : goal.returns-in-Check-clause-task
returns-in-Check-clause-task c = c.in_ok-order.ensures.value ∙ ap (λ o. Ok (order_seen o)) c.in-Check.is

pub returns-in-Check-clause-in_range : goal.returns-in-Check-clause-in_range
returns-in-Check-clause-in_range c =
    task_in_range _ (subst (λ (o : Order). IsOrderInRange (order_seen o)) c.in-Check.is c.in_ok-order.ensures.ranges)
