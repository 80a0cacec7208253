-- A step at the end of the last list.
use Rattle.std.proofs.lemmas.Result.{on_ok_weaker}
use Rattle.workers.specs.Steps.{Step}
use Rattle.kept_steps.proofs.Kept.{kept_last}
use Rattle.kept_steps.proofs.keeper.KeeperRecorder.record.Goals as goal

pub returns-clause-kept : goal.returns-clause-kept
returns-clause-kept c =
    let step : Step = record { block = c.args.block.now; bound = c.args.bound; seen = c.args.seen } in
    on_ok_weaker c.push.result (kept_last c.self.inside.earlier.items c.self.inside.last c.push.new.self step c.args.self.now c.self.view_is) c.push.ensures.added
