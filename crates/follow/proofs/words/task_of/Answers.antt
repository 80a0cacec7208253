-- What the words ask of `follow` is what their order asks.
use Rattle.std.proofs.Common.{Ok, ap, ◌∙◌, subst}
use Rattle.formats.specs.OrderRanges.{IsInRange as IsOrderInRange}
use Rattle.formats.specs.Orders.{◌>>=◌}
use Rattle.bank_words.specs.declared.order.Reach.{Reach}
use Rattle.bank_words.specs.Seen.{reach_seen}
use Rattle.follow_due.specs.FollowOrders.{of_follow}
use Rattle.follow.proofs.TaskLaws.{task_in_range}
use Rattle.follow.proofs.words.task_of.Goals as goal

pub returns-in-Follow-clause-task : goal.returns-in-Follow-clause-task
returns-in-Follow-clause-task c =
    (c.in-Follow.workers, ap (λ check. check >>= of_follow) (c.in_ok-order.ensures.value ∙ ap (λ o. Ok (reach_seen o)) c.in-Follow.is))

pub returns-in-Follow-clause-in_range : goal.returns-in-Follow-clause-in_range
returns-in-Follow-clause-in_range c =
    task_in_range _ (subst (λ (o : Reach). IsOrderInRange (reach_seen o)) c.in-Follow.is c.in_ok-order.ensures.ranges)
