-- Each return of a visit of minutes has walked them.
use Rattle.std.proofs.Common.{◌≡◌, refl, ◌∙◌, subst, rules}
use Rattle.std.specs.List.{AllByRecursion}
use Rattle.definitions.specs.declared.block.Block.{Block}
use Rattle.definitions.specs.answers.Blocks.{children, shorter}
use Rattle.workers.proofs.Walking.{ended, next_stopped, not_begun, one_more}
use Rattle.workers.proofs.visitor.Visitor.visit_minutes.Goals as goal

pub loop-minute-init : goal.loop-minute-init
loop-minute-init g c =
    let s = c.args.self.now in
    let hour = c.args.hour.now in
    let spans = c.children_share_the_sequences.ensures.spans s.tables.now.window hour s.window_is_in_range.century c.requires.block in record {
      race = refl;
      tables = c.bounded_children-minutes.ensures.tables;
      spans = rw c.bounded_children-minutes.ensures.left (subst (λ s. AllByRecursion (λ (c : Block). c.span ≡ shorter s) (children hour)) c.requires.hour spans);
      walking = rw c.bounded_children-minutes.ensures.left (not_begun c.args.seat.now.view c.args.recorder.now);
    }

pub loop-minute-preserved : goal.loop-minute-preserved
loop-minute-preserved g c =
    let at = c.loop-minute.invariant in
    let minute = c.in-Some.ensures in
    let visited = c.in_ok-visit_minute.ensures in record {
      race = visited.race ∙ at.race;
      tables = minute.tables ∙ at.tables;
      spans = (rw minute.child at at.spans).1;
      walking = one_more at.walking minute.child visited.walked;
    }

pub returns-clause-walked : goal.returns-clause-walked
returns-clause-walked g c = ended c.loop-minute.invariant.walking c.in_default.ensures.end.0

pub returns-in_err-visit_minute-clause-stopped : goal.returns-in_err-visit_minute-clause-stopped
returns-in_err-visit_minute-clause-stopped g c =
    let stopped = next_stopped c.loop-minute.invariant.walking c.in-Some.ensures.child c.in_err-visit_minute.ensures.stopped in
    search rules
