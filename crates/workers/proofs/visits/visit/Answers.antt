-- What was walked was visited.
use Rattle.field_tables.specs.Scored.{costs_of}
use Rattle.block_visits.proofs.Covering.{in_century}
use Rattle.workers.proofs.Taking.{visited}
use Rattle.workers.proofs.visits.visit.Goals as goal

pub returns-clause-visited : goal.returns-clause-visited
returns-clause-visited c =
    let t = c.args.tables.now in
    let century = in_century c.window-window.result t.window c.window-window.ensures.value c.window-window.ensures.ranges in
    visited (costs_of t) t.window c.args.ceiling (c.blocks_share_the_sequences.ensures (costs_of t) t.window c.args.ceiling century) _ c.args.item.now
    c.args.seat.now.view c.visit_item.new.seat.view _ _ c.requires.block c.in-Ok.ensures.walked
