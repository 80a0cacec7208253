-- What the workers shared was searched.
use Rattle.std.proofs.Common.{rules}
use Rattle.std.proofs.lemmas.Result.{on_ok_weaker}
use Rattle.field_tables.specs.Scored.{costs_of}
use Rattle.workers.specs.Recorded.{HaveShared}
use Rattle.block_visits.proofs.Covering.{in_century}
use Rattle.workers.proofs.Searching.{are_items, searched}
use Rattle.workers.proofs.searches.search_with.Goals as goal

pub share_out-requires-clause-items : goal.share_out-requires-clause-items
share_out-requires-clause-items g c =
    let t = c.args.tables.now in
    let century = in_century c.window-window.result t.window c.window-window.ensures.value c.window-window.ensures.ranges in
    search (rules, are_items (costs_of t) t.window c.args.ceiling (c.blocks_share_the_sequences.ensures (costs_of t) t.window c.args.ceiling century) c.args.items.now c.requires.items)

pub returns-clause-searched : goal.returns-clause-searched
returns-clause-searched g c =
    let t = c.args.tables.now in
    let k = g.K.Recorder in
    let century = in_century c.window-window.result t.window c.window-window.ensures.value c.window-window.ensures.ranges in
    on_ok_weaker c.share_out.result
    (λ (all : HaveShared k.told k.parts k.joins c.args.race.now (costs_of t) t.window c.args.ceiling c.args.items.now c.args.workers c.share_out.new.seat c.args.recorder.now c.share_out.new.recorder).
    searched (costs_of t) t.window c.args.ceiling (c.blocks_share_the_sequences.ensures (costs_of t) t.window c.args.ceiling century) c.args.items.now c.requires.items
    c.args.race.now c.share_out.new.seat all.shared)
    c.share_out.ensures.shared

pub returns-clause-recorded : goal.returns-clause-recorded
returns-clause-recorded g c =
    let t = c.args.tables.now in
    let k = g.K.Recorder in
    on_ok_weaker c.share_out.result
    (λ (all : HaveShared k.told k.parts k.joins c.args.race.now (costs_of t) t.window c.args.ceiling c.args.items.now c.args.workers c.share_out.new.seat c.args.recorder.now c.share_out.new.recorder).
    all.recorded)
    c.share_out.ensures.shared
