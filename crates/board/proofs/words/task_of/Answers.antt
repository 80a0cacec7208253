-- What the words ask of `board` is what their order asks.
use Rattle.std.proofs.Common.{Ok, ap, ◌∙◌, subst}
use Rattle.formats.specs.OrderRanges.{IsInRange as IsOrderInRange}
use Rattle.formats.specs.Orders.{◌>>=◌}
use Rattle.bank_words.specs.declared.order.Reach.{Reach}
use Rattle.bank_words.specs.Seen.{reach_seen}
use Rattle.board_due.specs.BoardOrders.{of_board}
use Rattle.board.proofs.TaskLaws.{task_in_range}
use Rattle.board.proofs.words.task_of.Goals as goal

pub returns-in-Board-clause-task : goal.returns-in-Board-clause-task
returns-in-Board-clause-task c =
    (c.in-Board.workers, ap (λ check. check >>= of_board) (c.in_ok-order.ensures.value ∙ ap (λ o. Ok (reach_seen o)) c.in-Board.is))

pub returns-in-Board-clause-in_range : goal.returns-in-Board-clause-in_range
returns-in-Board-clause-in_range c =
    task_in_range _ (subst (λ (o : Reach). IsOrderInRange (reach_seen o)) c.in-Board.is c.in_ok-order.ensures.ranges)
