-- Each item was drawn once.
use Rattle.field_tables.specs.Scored.{costs_of}
use Rattle.block_visits.proofs.Covering.{in_century}
use Rattle.workers.proofs.ending.finish.Goals as goal

pub returns-clause-drawn : goal.returns-clause-drawn
returns-clause-drawn c =
    let t = c.args.tables.now in
    let century = in_century c.window-window.result t.window c.window-window.ensures.value c.window-window.ensures.ranges in
    c.first_two_are_found.ensures.drawn (costs_of t) t.window c.args.ceiling c.args.items.now c.args.seat.view century c.requires.searched c.close-ends.ensures.drawn
