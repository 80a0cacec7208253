-- What the words ask of `judge` is what their order asks.
use Rattle.std.proofs.Common.{Ok, ap, ◌∙◌, subst}
use Rattle.formats.specs.OrderRanges.{IsInRange as IsOrderInRange}
use Rattle.bank_words.specs.declared.order.Reach.{Reach}
use Rattle.bank_words.specs.Seen.{reach_seen}
use Rattle.judges.proofs.TaskLaws.{task_in_range}
use Rattle.judges.proofs.words.task_of.Goals as goal

pub returns-in-Judge-clause-task : goal.returns-in-Judge-clause-task
returns-in-Judge-clause-task c = c.in_ok-order.ensures.value ∙ ap (λ o. Ok (reach_seen o)) c.in-Judge.is

pub returns-in-Judge-clause-in_range : goal.returns-in-Judge-clause-in_range
returns-in-Judge-clause-in_range c =
    task_in_range _ (subst (λ (o : Reach). IsOrderInRange (reach_seen o)) c.in-Judge.is c.in_ok-order.ensures.ranges)
