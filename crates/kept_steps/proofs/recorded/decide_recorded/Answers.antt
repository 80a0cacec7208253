-- What is found by the tables is found by their grids.
use Rattle.std.proofs.lemmas.Result.{IfOk-weaker}
use Rattle.definitions.specs.answers.FirstTwo.{AreLeastTwo, IsWindowKey}
use Rattle.field_tables.specs.Grids.{grid_costs}
use Rattle.field_tables.specs.Scored.{costs_of}
use Rattle.kept_steps.specs.Kept.{IsFound}
use Rattle.kept_steps.proofs.Windows.{keys_by, lists_by}
use Rattle.kept_steps.proofs.recorded.decide_recorded.Goals as goal

pub returns-clause-found : goal.returns-clause-found
returns-clause-found g c =
    let t = c.in_ok-tables.tables in
    let window = c.args.window.now in
    IfOk-weaker c.decide_tables.result (λ r. AreLeastTwo (IsWindowKey t.window (costs_of t) c.args.ceiling) r.found.first r.found.second)
    (λ r. AreLeastTwo (IsWindowKey window (grid_costs c.args.grids.now) c.args.ceiling) r.found.first r.found.second)
    (λ r. keys_by window c.args.grids.now t c.args.ceiling c.in_ok-tables.ensures.window c.in_ok-tables.ensures.grids r.found.first r.found.second)
    c.decide_tables.ensures.found

pub returns-clause-kept : goal.returns-clause-kept
returns-clause-kept g c =
    let t = c.in_ok-tables.tables in
    let window = c.args.window.now in
    IfOk-weaker c.decide_tables.result (λ r. IsFound (costs_of t) t.window c.args.ceiling c.args.workers r.found.second r.lists.items)
    (λ r. IsFound (grid_costs c.args.grids.now) window c.args.ceiling c.args.workers r.found.second r.lists.items)
    (λ r. lists_by window c.args.grids.now t c.args.ceiling c.in_ok-tables.ensures.window c.in_ok-tables.ensures.grids c.args.workers r.found.second r.lists.items)
    c.decide_tables.ensures.kept
