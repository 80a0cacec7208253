use Rattle.minute_parts.proofs.RunLaws.{added, differ, extended}
use Rattle.minute_parts.proofs.runs.add_run.Goals as goal

pub returns-in_ok-push-clause-covered : goal.returns-in_ok-push-clause-covered
returns-in_ok-push-clause-covered c =
    added c.args.station c.args.runs.now.items _ c.args.date.now c.args.here c.args.t _ c.requires.covered
    (differ c.args.here c.args.date.now c.if-ne.ensures) c.requires.here c.run_by.ensures c.in_ok-push.ensures.items

pub returns-in_ok-push-clause-grown : goal.returns-in_ok-push-clause-grown
returns-in_ok-push-clause-grown c = extended c.args.runs.now.items _ _ c.in_ok-push.ensures.items
