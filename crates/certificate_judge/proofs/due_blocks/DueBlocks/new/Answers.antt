-- A window has few items, and none twice.
use Rattle.std.proofs.Common.{◌≤◌, subst}
use Rattle.signal_base.specs.declared.window.Window.{Window}
use Rattle.definitions.specs.time.Calendar.{century_minutes}
use Rattle.field_tables.specs.Scored.{costs_of}
use Rattle.certificate_judge.proofs.DueLaws.{few_listed, own_places_listed}
use Rattle.certificate_judge.proofs.due_blocks.DueBlocks.new.Goals as goal

pub new-requires-clause-few : goal.new-requires-clause-few
new-requires-clause-few c = few_listed c.args.tables.now.window c.args.list.now c.requires

pub new-requires-clause-once : goal.new-requires-clause-once
new-requires-clause-once c =
    let w = c.args.tables.now.window in
    let century : w.to ≤ century_minutes = subst (λ (v : Window). v.to ≤ century_minutes) c.window.ensures.value c.window.ensures.ranges.century in
    own_places_listed w c.args.list.now c.requires (c.good_lines_are_walks.ensures.own_order (costs_of c.args.tables.now) w century)
