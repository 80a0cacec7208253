-- Each return of a visit of days has walked them.
use Rattle.std.proofs.Common.{◌≡◌, refl, ◌∙◌, subst, rules}
use Rattle.std.specs.List.{AllByRecursion}
use Rattle.definitions.specs.declared.block.Block.{Block}
use Rattle.definitions.specs.answers.Blocks.{children, shorter}
use Rattle.workers.proofs.Walking.{ended, next_stopped, not_begun, one_more}
use Rattle.workers.proofs.visitor.Visitor.visit_days.Goals as goal

pub loop-day-init : goal.loop-day-init
loop-day-init g c =
    let s = c.args.self.now in
    let year = c.args.year.now in
    let spans = c.children_share_the_sequences.ensures.spans s.tables.now.window year s.window_is_in_range.century c.requires.block in record {
      race = refl;
      tables = c.bounded_children-days.ensures.tables;
      spans = rw c.bounded_children-days.ensures.left (subst (λ s. AllByRecursion (λ (c : Block). c.span ≡ shorter s) (children year)) c.requires.year spans);
      walking = rw c.bounded_children-days.ensures.left (not_begun c.args.seat.now.view c.args.recorder.now);
    }

pub loop-day-preserved : goal.loop-day-preserved
loop-day-preserved g c =
    let at = c.loop-day.invariant in
    let day = c.in-Some.ensures in
    let visited = c.in_ok-visit_day.ensures in record {
      race = visited.race ∙ at.race;
      tables = day.tables ∙ at.tables;
      spans = (rw day.child at at.spans).1;
      walking = one_more at.walking day.child visited.walked;
    }

pub returns-clause-walked : goal.returns-clause-walked
returns-clause-walked g c = ended c.loop-day.invariant.walking c.in_default.ensures.end.0

pub returns-in_err-visit_day-clause-stopped : goal.returns-in_err-visit_day-clause-stopped
returns-in_err-visit_day-clause-stopped g c =
    let stopped = next_stopped c.loop-day.invariant.walking c.in-Some.ensures.child c.in_err-visit_day.ensures.stopped in
    search rules
