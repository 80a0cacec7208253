-- What was walked was visited, and its steps were appended.
use Rattle.std.proofs.lemmas.Result.{on_err_weaker, on_ok_weaker}
use Rattle.field_tables.specs.Scored.{costs_of}
use Rattle.block_visits.proofs.Covering.{in_century}
use Rattle.kept_steps.proofs.Appended.{appended, left, visited_by}
use Rattle.kept_steps.proofs.recorded.visit_recorded.Goals as goal

pub returns-clause-visited : goal.returns-clause-visited
returns-clause-visited c =
    let t = c.args.tables.now in
    let century = in_century c.window-window.result t.window c.window-window.ensures.value c.window-window.ensures.ranges in
    on_ok_weaker c.visit_with.result
    (visited_by (costs_of t) t.window c.args.ceiling (c.blocks_share_the_sequences.ensures (costs_of t) t.window c.args.ceiling century) c.args.item.now
    c.args.seat.now.view c.visit_with.new.seat.view c.args.steps.now c.visit_with.new.recorder c.requires.block)
    c.visit_with.ensures.walked

pub returns-clause-appended : goal.returns-clause-appended
returns-clause-appended c =
    let t = c.args.tables.now in
    on_ok_weaker c.visit_with.result
    (appended (costs_of t) t.window c.args.ceiling c.args.item.now c.args.seat.now.view c.visit_with.new.seat.view c.args.steps.now c.visit_with.new.recorder)
    c.visit_with.ensures.walked

pub returns-clause-left : goal.returns-clause-left
returns-clause-left c =
    let t = c.args.tables.now in
    on_err_weaker c.visit_with.result
    (left (costs_of t) t.window c.args.ceiling c.args.item.now c.args.seat.now.view c.visit_with.new.seat.view c.args.steps.now c.visit_with.new.recorder)
    c.visit_with.ensures.stopped
