use Rattle.std.proofs.Common.{◌≡◌, ◌<◌, ◌≤◌, ℕ, true, List, length, get_or, slice_index, sym, ap, ◌∙◌, subst, arith}
use Rattle.signal_base.specs.declared.station.Station.{Station}
use Rattle.signal_base.specs.declared.window.Window.{Window}
use Rattle.definitions.specs.codes.Allowed.{has_station}
use Rattle.definitions.specs.answers.Blocks.{HasWalk, IsUnion}
use Rattle.definitions.specs.heard.Costs.{set_cost, sum_below}
use Rattle.definitions.proofs.BoundExistLaws.{a_union}
use Rattle.symbol_cost.specs.Grid.{Grid, cost_at}
use Rattle.slot_columns.specs.Parts.{most_cost}
use Rattle.walk_costs.specs.Walks.{PricedParts}
use Rattle.block_costs.specs.Blocks.{unions_cost}
use Rattle.plain_costs.specs.Unions.{AreUnions}
use Rattle.field_tables.specs.Sums.{AreSums, Sums}
use Rattle.field_tables.proofs.SumLaws.{heard, next, next_within, own_station, price_found, slots, small, some_of_them, whole}
use Rattle.field_tables.proofs.sums.WindowSums.leap_bound.Goals as goal

pub leap_unions-requires-clause-station : goal.leap_unions-requires-clause-station
leap_unions-requires-clause-station c =
    let sums = c.args.self.now in
    let are = subst AreSums c.self.view_is c.self.invariant.0 in
    let all = c.deref-station-items.ensures.value ∙ ap (λ (s : Sums). s.stations) c.self.view_is in
    let i = c.loop-station.station-index in
    let w = c.station-item.result in
    let lt = subst (λ (ws : List PricedParts). i < length ws) all c.loop-station-test.true in
    let is = c.station-item.is ∙ ap (λ (ws : List PricedParts). get_or ws i w) all in
    subst (λ (x : Window). has_station x.stations w.parts.station ≡ true) (sym (ap (λ (s : Sums). s.window) c.self.view_is))
    (ap (has_station sums.window.stations) (own_station sums are i w lt is) ∙ heard sums are i w lt is)

pub leap_unions-requires-clause-seconds : goal.leap_unions-requires-clause-seconds
leap_unions-requires-clause-seconds c =
    let are = subst AreSums c.self.view_is c.self.invariant.0 in
    let all = c.deref-station-items.ensures.value ∙ ap (λ (s : Sums). s.stations) c.self.view_is in
    let i = c.loop-station.station-index in
    let w = c.station-item.result in
    let lt = subst (λ (ws : List PricedParts). i < length ws) all c.loop-station-test.true in
    let is = c.station-item.is ∙ ap (λ (ws : List PricedParts). get_or ws i w) all in
    ap (λ (s : Sums). s.window.seconds) c.self.view_is ∙ sym (slots c.args.self.now are i w lt is)

pub overflow_add-total : goal.overflow_add-total
overflow_add-total c =
    let are = subst AreSums c.self.view_is c.self.invariant.0 in
    let all = c.deref-station-items.ensures.value ∙ ap (λ (s : Sums). s.stations) c.self.view_is in
    let i = c.loop-station.station-index in
    let w = c.station-item.result in
    let lt = subst (λ (ws : List PricedParts). i < length ws) all c.loop-station-test.true in
    let is = c.station-item.is ∙ ap (λ (ws : List PricedParts). get_or ws i w) all in
    let same = c.columns.ensures.columns ∙ ap (λ (v : PricedParts). v.grid) c.walks.ensures in
    let most = subst (λ (g : Grid). c.sets_cost-total.result ≤ most_cost g) same c.sets_cost-total.ensures.bound in
    omega (arith, small c.args.self.now are _ _ (next_within c.args.self.now are i w lt is c.loop-station.total c.sets_cost-total.result c.loop-station.invariant.bound most))

pub loop-station-preserved : goal.loop-station-preserved
loop-station-preserved c =
    let sums = c.args.self.now in
    let are = subst AreSums c.self.view_is c.self.invariant.0 in
    let all = c.deref-station-items.ensures.value ∙ ap (λ (s : Sums). s.stations) c.self.view_is in
    let win = ap (λ (s : Sums). s.window) c.self.view_is in
    let b = c.args.block.now in
    let n = sums.window.seconds in
    let i = c.loop-station.station-index in
    let w = c.station-item.result in
    let lt = subst (λ (ws : List PricedParts). i < length ws) all c.loop-station-test.true in
    let is = c.station-item.is ∙ ap (λ (ws : List PricedParts). get_or ws i w) all in
    let same = c.columns.ensures.columns ∙ ap (λ (v : PricedParts). v.grid) c.walks.ensures in
    let most = subst (λ (g : Grid). c.sets_cost-total.result ≤ most_cost g) same c.sets_cost-total.ensures.bound in
    let cost = subst (λ (g : Grid). c.sets_cost-total.result ≡ unions_cost g (slice_index c.in-Some.sets)) same c.sets_cost-total.ensures.cost in
    let found = λ (k : ℕ) (less : k < n).
    subst (λ (s : Station). IsUnion sums.window b s k (slice_index c.in-Some.sets k)) (own_station sums are i w lt is)
    (subst (λ (x : Window). IsUnion x b w.parts.station k (slice_index c.in-Some.sets k)) win
    (c.in-Some.ensures.1 k (subst (λ (x : Window). k < x.seconds) (sym win) less))) in
    record {
      cost = λ unions each.
          next sums are i w lt is (λ (g : Grid). sum_below n (λ k. set_cost g.station (cost_at g.rows k) (unions g.station k))) _ _
          (c.loop-station.invariant.cost unions each)
          (price_found sums are i w lt is b unions c.in-Some.sets _ each found cost);
      bound = next_within sums are i w lt is c.loop-station.total c.sets_cost-total.result c.loop-station.invariant.bound most;
      walk = λ some. subst (λ (x : Window). HasWalk x b) win c.in-Some.ensures.0;
    }

pub returns-clause-bound : goal.returns-clause-bound
returns-clause-bound c =
    let sums = c.args.self.now in
    let are = subst AreSums c.self.view_is c.self.invariant.0 in
    let all = c.deref-station-items.ensures.value ∙ ap (λ (s : Sums). s.stations) c.self.view_is in
    let b = c.args.block.now in
    let n = sums.window.seconds in
    let past = subst (λ (ws : List PricedParts). length ws ≤ c.loop-station.station-index) all c.loop-station-test.false in
    let unions = λ (station : Station) (k : ℕ). (a_union sums.window b station k).0 in
    let each : AreUnions sums.window b unions = λ station k heard lt. (a_union sums.window b station k).1 in (
      c.loop-station.invariant.walk (omega (arith, past, some_of_them sums are)),
      record {
        unions = unions;
        each = each;
        cost = whole sums are (λ station costs. sum_below n (λ k. set_cost station (costs k) (unions station k))) _ _ past (c.loop-station.invariant.cost unions each);
      },
    )
