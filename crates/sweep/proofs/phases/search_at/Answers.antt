-- The first two keys by the grids are those of the bank at this offset.
use Rattle.std.proofs.Common.{◌≡◌, List, sym, subst}
use Rattle.signal_base.specs.declared.window.Window.{Window}
use Rattle.definitions.specs.declared.sequence.Sequence.{Sequence}
use Rattle.field_tables.specs.Grids.{AreGrids, HaveCosts, grid_costs}
use Rattle.field_tables.specs.Scopes.{scopes_of}
use Rattle.symbol_cost.specs.Grid.{Grid}
use Rattle.due.specs.Banks.{costs_in}
use Rattle.bank.specs.Hearing.{bank_seen}
use Rattle.sweep.proofs.FoundAtLaws.{found_at}
use Rattle.sweep.proofs.phases.search_at.Goals as goal

pub decide_by-requires-clause-parts : goal.decide_by-requires-clause-parts
decide_by-requires-clause-parts g c lifetimes live =
    subst (λ (w : Window). c.args.parts.now ≡ scopes_of w.stations w.seconds) (sym c.window_at-moved.ensures.window) c.requires.parts

pub returns-clause-searched : goal.returns-clause-searched
returns-clause-searched g c =
    let moved = c.window_at-moved.result in
    let bank = bank_seen c.args.bank.now in
    let grids = c.as_slice.result.now in
    let found = c.in_ok-found.found in
    let value = sym c.as_slice.ensures.value in
    let are = subst (λ (gs : List Grid). AreGrids moved gs) value c.in_ok-grids.ensures.grids in
    let have = subst (λ (gs : List Grid). HaveCosts moved gs (costs_in moved bank)) value c.in_ok-grids.ensures.costs in
    let same = λ (q : Sequence). c.agreeing_costs_cost_alike.ensures.cost moved (grid_costs grids) (costs_in moved bank) q (c.grids_agree_with_their_costs.ensures moved grids (costs_in moved bank) are have) in
    found_at c.args.window.now bank c.args.offset c.ceiling_after-ceiling.result c.args.before c.with_two.result moved (grid_costs grids) found.first found.second
    c.window_at-moved.ensures.window c.ceiling_after-ceiling.ensures.value same c.in_ok-found.ensures c.with_two.ensures
