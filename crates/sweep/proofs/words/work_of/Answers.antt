-- What the words ask of `sweep` is what their order asks.
use Rattle.std.proofs.Common.{None, Ok, ap, ◌∙◌, subst}
use Rattle.formats.specs.OrderRanges.{IsInRange as IsOrderInRange}
use Rattle.formats.specs.Orders.{◌>>=◌}
use Rattle.bank_words.specs.declared.order.Reach.{Reach}
use Rattle.bank_words.specs.declared.order.Reach.TheVariants as reach
use Rattle.bank_words.specs.Seen.{reach_seen}
use Rattle.sweep_due.specs.SweepCertificates.{name_asked}
use Rattle.sweep_due.specs.SweepOrders.{of_sweep}
use Rattle.sweep.proofs.TaskLaws.{certify_in_range, task_in_range}
use Rattle.sweep.proofs.words.work_of.Goals as goal

pub returns-in-Some-clause-work : goal.returns-in-Some-clause-work
returns-in-Some-clause-work c =
    let s = c.in-Sweep in
    c.in_ok-order.ensures.value ∙ ap (λ o. Ok (reach_seen o)) s.is ∙ ap (λ name. Ok (reach_seen (reach.Sweep s.config s.asked s.workers name))) c.in-Some.is

pub returns-in-Some-clause-in_range : goal.returns-in-Some-clause-in_range
returns-in-Some-clause-in_range c =
    let s = c.in-Sweep in
    certify_in_range _
    (subst (λ name. IsOrderInRange (reach_seen (reach.Sweep s.config s.asked s.workers name))) c.in-Some.is
    (subst (λ (o : Reach). IsOrderInRange (reach_seen o)) s.is c.in_ok-order.ensures.ranges))

pub returns-in-None-clause-work : goal.returns-in-None-clause-work
returns-in-None-clause-work c =
    let s = c.in-Sweep in
    let order = c.in_ok-order.ensures.value ∙ ap (λ o. Ok (reach_seen o)) s.is ∙ ap (λ name. Ok (reach_seen (reach.Sweep s.config s.asked s.workers name))) c.in-None.is in
    ((s.workers, None, ap (λ check. check >>= of_sweep) order), ap name_asked order)

pub returns-in-None-clause-in_range : goal.returns-in-None-clause-in_range
returns-in-None-clause-in_range c =
    let s = c.in-Sweep in
    task_in_range _ _ (subst (λ (o : Reach). IsOrderInRange (reach_seen o)) s.is c.in_ok-order.ensures.ranges)
