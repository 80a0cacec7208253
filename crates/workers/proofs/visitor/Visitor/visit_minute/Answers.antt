-- A minute that is opened offers its key.
use Rattle.workers.proofs.Walking.{offered_minute}
use Rattle.workers.proofs.visitor.Visitor.visit_minute.Goals as goal

pub returns-clause-walked : goal.returns-clause-walked
returns-clause-walked g c =
    let offered = c.offer.ensures.view in
    offered_minute c.requires.bound (rw c.in-Some.is at c.in_ok-opened.ensures.opened) c.requires.minute offered.1 offered.2
