-- Each return of a visit of hours has walked them.
use Rattle.std.proofs.Common.{◌≡◌, refl, ◌∙◌, subst, rules}
use Rattle.std.specs.List.{AllByRecursion}
use Rattle.definitions.specs.declared.block.Block.{Block}
use Rattle.definitions.specs.answers.Blocks.{children, shorter}
use Rattle.workers.proofs.Walking.{ended, next_stopped, not_begun, one_more}
use Rattle.workers.proofs.visitor.Visitor.visit_hours.Goals as goal

pub loop-hour-init : goal.loop-hour-init
loop-hour-init g c =
    let s = c.args.self.now in
    let hours_of = c.args.day.now in
    let spans = c.children_share_the_sequences.ensures.spans s.tables.now.window hours_of s.window_is_in_range.century c.requires.block in record {
      race = refl;
      tables = c.bounded_children-hours.ensures.tables;
      spans = rw c.bounded_children-hours.ensures.left (subst (λ s. AllByRecursion (λ (c : Block). c.span ≡ shorter s) (children hours_of)) c.requires.day spans);
      walking = rw c.bounded_children-hours.ensures.left (not_begun c.args.seat.now.view c.args.recorder.now);
    }

pub loop-hour-preserved : goal.loop-hour-preserved
loop-hour-preserved g c =
    let at = c.loop-hour.invariant in
    let hour = c.in-Some.ensures in
    let visited = c.in_ok-visit_hour.ensures in record {
      race = visited.race ∙ at.race;
      tables = hour.tables ∙ at.tables;
      spans = (rw hour.child at at.spans).1;
      walking = one_more at.walking hour.child visited.walked;
    }

pub returns-clause-walked : goal.returns-clause-walked
returns-clause-walked g c = ended c.loop-hour.invariant.walking c.in_default.ensures.end.0

pub returns-in_err-visit_hour-clause-stopped : goal.returns-in_err-visit_hour-clause-stopped
returns-in_err-visit_hour-clause-stopped g c =
    let stopped = next_stopped c.loop-hour.invariant.walking c.in-Some.ensures.child c.in_err-visit_hour.ensures.stopped in
    search rules
