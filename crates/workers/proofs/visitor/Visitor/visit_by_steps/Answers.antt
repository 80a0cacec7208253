-- An item that is opened was walked once its children were.
use Rattle.std.proofs.Common.{rules}
use Rattle.std.proofs.lemmas.Result.{on_err_weaker, on_ok_weaker}
use Rattle.workers.proofs.Walking.{with_children, with_children_stopped}
use Rattle.workers.proofs.visitor.Visitor.visit_by_steps.Goals as goal

pub returns-clause-walked : goal.returns-clause-walked
returns-clause-walked g c =
    on_ok_weaker _ (with_children c.bound.ensures.bound (rw c.in-Some.is at c.in_ok-opened.ensures.opened) (search rules)) c.visit_children.ensures.walked

pub returns-clause-stopped : goal.returns-clause-stopped
returns-clause-stopped g c =
    on_err_weaker _ (with_children_stopped c.bound.ensures.bound (rw c.in-Some.is at c.in_ok-opened.ensures.opened) (search rules)) c.visit_children.ensures.stopped
