-- A walk that tells no value of DUT1 costs what its sets do, and one that ends before the leap second what DUT1 adds besides.
use Rattle.std.proofs.Common.{◌≡◌, ℕ, ◌/◌, ◌==◌, ◌<◌, ◌≤◌, true, false, ◌&&◌, length, slice_index, sym, ap, ◌∙◌, subst, arith}
use Rattle.signal_base.specs.declared.station.Station.{Station}
use Rattle.definitions.specs.heard.Costs.{lies_in_one_day}
use Rattle.definitions.specs.heard.Dut1.{has_dut1}
use Rattle.symbol_cost.specs.Grid.{Grid}
use Rattle.slot_columns.specs.Parts.{most_cost}
use Rattle.minute_parts.specs.Parts.{IsPartTable}
use Rattle.leap_unions.specs.Pieces.{announced_from}
use Rattle.walk_costs.specs.Dates.{IsAdded}
use Rattle.walk_costs.specs.Walks.{AreSmall, PricedParts, last_minute}
use Rattle.walk_costs.proofs.RunLaws.{in_century}
use Rattle.block_costs.specs.Blocks.{unions_cost}
use Rattle.field_tables.proofs.LeapLaws.{cost_by_sets, cost_by_sets_and_dut1, next_day_of, sets_of_walk}
use Rattle.field_tables.proofs.station.StationSums.leap_cost.Goals as goal

pub returns-then-is_untold-clause-cost : goal.returns-then-is_untold-clause-cost
returns-then-is_untold-clause-cost c =
    let w = c.args.self.now in
    let own = c.self.inside in
    let walk = c.in_ok-walk.walk in
    let its = c.walks-walks.ensures ∙ c.self.view_is in
    let grid_is = c.columns-columns.ensures.columns ∙ ap (λ (v : PricedParts). v.grid) its in
    let same_station = subst (λ (v : PricedParts). v.parts.station ≡ v.grid.station) its c.unions.ensures.station in
    let station : own.leaps.now.station ≡ w.grid.station = c.self.invariant.0 ∙ ap (λ (v : PricedParts). v.parts.station) c.self.view_is ∙ same_station in
    let seconds : own.leaps.now.seconds ≡ length w.grid.rows = c.self.invariant.1 ∙ ap (λ (v : PricedParts). length v.grid.rows) c.self.view_is in
    let carried = sets_of_walk w own.leaps.now c.args.p c.args.first walk c.in_ok-walk.ensures station seconds in
    let price = subst (λ (g : Grid). c.sets_cost-sets.result ≡ unions_cost g (slice_index walk.sets)) grid_is c.sets_cost-sets.ensures.cost in
    let heard = c.station.ensures ∙ ap (λ (g : Grid). g.station) grid_is in
    let untold = ap (λ (s : Station). has_dut1 s && lies_in_one_day (length w.grid.rows) (announced_from c.args.p c.args.first)) (sym heard)
    ∙ c.is_untold.ensures c.if-is_untold.true (lies_in_one_day (length w.grid.rows) (announced_from c.args.p c.args.first))
    (next_day_of w own.leaps.now c.args.p c.args.first walk c.in_ok-walk.ensures seconds) in
    price ∙ cost_by_sets w c.args.p c.args.first walk.sets carried untold

pub returns-then-is_untold-clause-small : goal.returns-then-is_untold-clause-small
returns-then-is_untold-clause-small c =
    let its = c.walks-walks.ensures ∙ c.self.view_is in
    let grid_is = c.columns-columns.ensures.columns ∙ ap (λ (v : PricedParts). v.grid) its in
    subst (λ (g : Grid). c.sets_cost-sets.result ≤ most_cost g) grid_is c.sets_cost-sets.ensures.bound

pub added_from-requires-clause-minute : goal.added_from-requires-clause-minute
added_from-requires-clause-minute c =
    let w = c.args.self.now in
    let its = c.walks-walks.ensures ∙ c.self.view_is in
    let parts = c.parts.ensures ∙ c.unions.ensures.unions ∙ ap (λ (v : PricedParts). v.parts) its in
    let table = subst IsPartTable parts c.end.ensures.table in
    omega (arith, c.requires.encoded, in_century w.parts table)

pub overflow_add-result : goal.overflow_add-result
overflow_add-result c =
    let w = c.args.self.now in
    let own = c.self.inside in
    let walk = c.in_ok-walk.walk in
    let its = c.walks-walks.ensures ∙ c.self.view_is in
    let grid_is = c.columns-columns.ensures.columns ∙ ap (λ (v : PricedParts). v.grid) its in
    let same_station = subst (λ (v : PricedParts). v.parts.station ≡ v.grid.station) its c.unions.ensures.station in
    let station : own.leaps.now.station ≡ w.grid.station = c.self.invariant.0 ∙ ap (λ (v : PricedParts). v.parts.station) c.self.view_is ∙ same_station in
    let seconds : own.leaps.now.seconds ≡ length w.grid.rows = c.self.invariant.1 ∙ ap (λ (v : PricedParts). length v.grid.rows) c.self.view_is in
    let carried = sets_of_walk w own.leaps.now c.args.p c.args.first walk c.in_ok-walk.ensures station seconds in
    let price = subst (λ (g : Grid). c.sets_cost-sets.result ≡ unions_cost g (slice_index walk.sets)) grid_is c.sets_cost-sets.ensures.cost in
    let added = subst (λ (v : PricedParts). ((last_minute v c.args.p c.args.first / 1440 == c.args.first / 1440) ≡ true → IsAdded v.grid c.args.p c.added_from.result)
    × ((last_minute v c.args.p c.args.first / 1440 == c.args.first / 1440) ≡ false → c.added_from.result ≡ 0)) its (c.added_from.ensures.one_day, c.added_from.ensures.two_days) in
    let small = subst (λ (v : PricedParts). AreSmall v.grid) its c.columns-columns.ensures.small in
    let short = λ (t : ℕ) (ge : c.args.first ≤ t) (lt : t < last_minute w c.args.p c.args.first).
    c.in_ok-walk.ensures.early c.if-not-walk.false t ge (omega (arith, lt, seconds)) in
    let total = cost_by_sets_and_dut1 w small c.args.p c.args.first c.requires.second short walk.sets carried c.added_from.result added.0 added.1 in
    let fits = subst (λ (v : PricedParts). most_cost v.grid ≤ 1_920_000_000) its c.columns-columns.ensures.fits in
    omega (arith, total.bound, price, fits)

pub returns-clause-cost : goal.returns-clause-cost
returns-clause-cost c =
    let w = c.args.self.now in
    let own = c.self.inside in
    let walk = c.in_ok-walk.walk in
    let its = c.walks-walks.ensures ∙ c.self.view_is in
    let grid_is = c.columns-columns.ensures.columns ∙ ap (λ (v : PricedParts). v.grid) its in
    let same_station = subst (λ (v : PricedParts). v.parts.station ≡ v.grid.station) its c.unions.ensures.station in
    let station : own.leaps.now.station ≡ w.grid.station = c.self.invariant.0 ∙ ap (λ (v : PricedParts). v.parts.station) c.self.view_is ∙ same_station in
    let seconds : own.leaps.now.seconds ≡ length w.grid.rows = c.self.invariant.1 ∙ ap (λ (v : PricedParts). length v.grid.rows) c.self.view_is in
    let carried = sets_of_walk w own.leaps.now c.args.p c.args.first walk c.in_ok-walk.ensures station seconds in
    let price = subst (λ (g : Grid). c.sets_cost-sets.result ≡ unions_cost g (slice_index walk.sets)) grid_is c.sets_cost-sets.ensures.cost in
    let added = subst (λ (v : PricedParts). ((last_minute v c.args.p c.args.first / 1440 == c.args.first / 1440) ≡ true → IsAdded v.grid c.args.p c.added_from.result)
    × ((last_minute v c.args.p c.args.first / 1440 == c.args.first / 1440) ≡ false → c.added_from.result ≡ 0)) its (c.added_from.ensures.one_day, c.added_from.ensures.two_days) in
    let small = subst (λ (v : PricedParts). AreSmall v.grid) its c.columns-columns.ensures.small in
    let short = λ (t : ℕ) (ge : c.args.first ≤ t) (lt : t < last_minute w c.args.p c.args.first).
    c.in_ok-walk.ensures.early c.if-not-walk.false t ge (omega (arith, lt, seconds)) in
    let total = cost_by_sets_and_dut1 w small c.args.p c.args.first c.requires.second short walk.sets carried c.added_from.result added.0 added.1 in
    omega (arith, total.cost, price)

pub returns-clause-small : goal.returns-clause-small
returns-clause-small c =
    let w = c.args.self.now in
    let own = c.self.inside in
    let walk = c.in_ok-walk.walk in
    let its = c.walks-walks.ensures ∙ c.self.view_is in
    let grid_is = c.columns-columns.ensures.columns ∙ ap (λ (v : PricedParts). v.grid) its in
    let same_station = subst (λ (v : PricedParts). v.parts.station ≡ v.grid.station) its c.unions.ensures.station in
    let station : own.leaps.now.station ≡ w.grid.station = c.self.invariant.0 ∙ ap (λ (v : PricedParts). v.parts.station) c.self.view_is ∙ same_station in
    let seconds : own.leaps.now.seconds ≡ length w.grid.rows = c.self.invariant.1 ∙ ap (λ (v : PricedParts). length v.grid.rows) c.self.view_is in
    let carried = sets_of_walk w own.leaps.now c.args.p c.args.first walk c.in_ok-walk.ensures station seconds in
    let price = subst (λ (g : Grid). c.sets_cost-sets.result ≡ unions_cost g (slice_index walk.sets)) grid_is c.sets_cost-sets.ensures.cost in
    let added = subst (λ (v : PricedParts). ((last_minute v c.args.p c.args.first / 1440 == c.args.first / 1440) ≡ true → IsAdded v.grid c.args.p c.added_from.result)
    × ((last_minute v c.args.p c.args.first / 1440 == c.args.first / 1440) ≡ false → c.added_from.result ≡ 0)) its (c.added_from.ensures.one_day, c.added_from.ensures.two_days) in
    let small = subst (λ (v : PricedParts). AreSmall v.grid) its c.columns-columns.ensures.small in
    let short = λ (t : ℕ) (ge : c.args.first ≤ t) (lt : t < last_minute w c.args.p c.args.first).
    c.in_ok-walk.ensures.early c.if-not-walk.false t ge (omega (arith, lt, seconds)) in
    let total = cost_by_sets_and_dut1 w small c.args.p c.args.first c.requires.second short walk.sets carried c.added_from.result added.0 added.1 in
    omega (arith, total.bound, price)
