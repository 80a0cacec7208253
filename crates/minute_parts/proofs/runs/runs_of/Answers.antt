use Rattle.std.proofs.Common.{◌<◌, ◌≤◌, ◌∙◌, subst, sym, arith}
use Rattle.minute_parts.specs.Runs.{Points}
use Rattle.minute_parts.proofs.RunLaws.{longer, same_days, still_points}
use Rattle.minute_parts.proofs.runs.runs_of.Goals as goal

pub add_day-requires-clause-days : goal.add_day-requires-clause-days
add_day-requires-clause-days c = still_points _ _ _ _ c.in_ok-add_run.ensures.grown c.loop-t.invariant.days

pub piece_end-requires-clause-century : goal.piece_end-requires-clause-century
piece_end-requires-clause-century c = (c.requires.encoded c.loop-t.t c.loop-t-test.true).0

pub loop-t-preserved : goal.loop-t-preserved
loop-t-preserved c =
    let run = c.in_ok-add_run.ensures in
    let facts = c.date_facts-here.ensures.value in
    let later : c.loop-t.t < c.min-t.result = omega (arith, c.min-t.ensures, c.piece_end.ensures.later, c.loop-t-test.true) in
    let soon : c.min-t.result ≤ c.piece_end.result = omega (arith, c.min-t.ensures) in
    record {
      within = omega (arith, c.min-t.ensures);
      covered = longer c.args.station _ _ c.loop-t.t _ run.covered (run.here ∙ facts) (omega (arith, later))
          (λ v from to. c.piece_end.ensures.same v from (omega (arith, to, soon)));
      begun = omega (arith, run.covered.last, c.loop-t-test.true);
      days = subst (Points _ _) (sym (same_days c.loop-t.t c.min-t.result later (omega (arith, soon, c.piece_end.ensures.day)))) c.in_ok-add_day.ensures;
    }
