-- Each return of a visit of children has walked them.
use Rattle.std.proofs.Common.{refl, ◌∙◌, rules}
use Rattle.workers.proofs.Walking.{ended, next_stopped, not_begun, one_more, with_children, with_children_stopped}
use Rattle.workers.proofs.visitor.Visitor.+visit_children.Goals as goal

pub loop-child-init : goal.loop-child-init
loop-child-init g t c =
    let s = c.args.self.now in
    let b = c.args.block.now in record {
      race = refl;
      tables = c.bounded_children-children.ensures.tables;
      spans = rw c.bounded_children-children.ensures.left (c.children_share_the_sequences.ensures.spans s.tables.now.window b s.window_is_in_range.century c.requires.block);
      walking = rw c.bounded_children-children.ensures.left (not_begun c.args.seat.now.view c.args.recorder.now);
    }

pub loop-child-preserved-in_default-opened : goal.loop-child-preserved-in_default-opened
loop-child-preserved-in_default-opened g t c =
    let at = c.loop-child.invariant in
    let child = c.in-Some.ensures in record {
      race = c.come_to.ensures.race ∙ at.race;
      tables = child.tables ∙ at.tables;
      spans = (rw child.child at at.spans).1;
      walking = one_more at.walking child.child (rw c.in_default-opened.is at c.in_ok-opened.ensures.passed);
    }

pub loop-child-preserved : goal.loop-child-preserved
loop-child-preserved g t c =
    let at = c.loop-child.invariant in
    let child = c.in-Some.ensures in
    let visited = c.in_ok-visit_children.ensures in record {
      race = visited.race ∙ (c.come_to.ensures.race ∙ at.race);
      tables = child.tables ∙ at.tables;
      spans = (rw child.child at at.spans).1;
      walking = one_more at.walking child.child (with_children (rw at.tables at child.bound) (rw c.in-Some-opened.is at c.in_ok-opened.ensures.opened) (search rules) visited.walked);
    }

pub returns-clause-walked : goal.returns-clause-walked
returns-clause-walked g t c = ended c.loop-child.invariant.walking c.in_default.ensures.end.0

pub returns-in_err-opened-clause-stopped : goal.returns-in_err-opened-clause-stopped
returns-in_err-opened-clause-stopped g t c =
    let stopped = next_stopped c.loop-child.invariant.walking c.in-Some.ensures.child c.in_err-opened.ensures.stopped in
    search rules

pub returns-in_err-visit_children-clause-stopped : goal.returns-in_err-visit_children-clause-stopped
returns-in_err-visit_children-clause-stopped g t c =
    let at = c.loop-child.invariant in
    let child = c.in-Some.ensures in
    let stopped = next_stopped at.walking child.child
    (with_children_stopped (rw at.tables at child.bound) (rw c.in-Some-opened.is at c.in_ok-opened.ensures.opened) (search rules) c.in_err-visit_children.ensures.stopped) in
    search rules
