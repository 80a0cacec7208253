-- What the words ask of the commands of frames is what their order asks.
use Rattle.std.proofs.Common.{Ok, ap, ◌∙◌}
use Rattle.formats.specs.Orders.{◌>>=◌}
use Rattle.bank_words.specs.Seen.{reach_seen}
use Rattle.due.specs.FrameOrders.{of_frames}
use Rattle.frame_runs.proofs.words.task_of.Goals as goal

pub returns-in-Irig-clause-task : goal.returns-in-Irig-clause-task
returns-in-Irig-clause-task c =
    (c.in-Irig.workers, ap (λ check. check >>= of_frames) (c.in_ok-order.ensures.value ∙ ap (λ o. Ok (reach_seen o)) c.in-Irig.is))

pub returns-in-IrigRead-clause-task : goal.returns-in-IrigRead-clause-task
returns-in-IrigRead-clause-task c = ap (λ check. check >>= of_frames) (c.in_ok-order.ensures.value ∙ ap (λ o. Ok (reach_seen o)) c.in-IrigRead.is)
