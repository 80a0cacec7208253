-- The sum over the stations.
use Rattle.std.proofs.Common.{◌<◌, ◌≤◌, List, length, get_or, sym, ap, ◌∙◌, subst, arith}
use Rattle.definitions.specs.answers.Blocks.{first_of}
use Rattle.definitions.specs.heard.Costs.{station_cost}
use Rattle.symbol_cost.specs.Grid.{Grid, cost_at}
use Rattle.leap_unions.specs.Pieces.{announced_from}
use Rattle.minute_parts.specs.Walks.{later_minutes}
use Rattle.walk_costs.specs.Walks.{PricedParts}
use Rattle.field_tables.specs.Sums.{Sums}
use Rattle.field_tables.proofs.LeapLaws.{first_is}
use Rattle.field_tables.proofs.SumLaws.{next, next_within, slots, small, whole}
use Rattle.field_tables.proofs.sums.WindowSums.leap_minute_cost.Goals as goal

pub may_be_leap_walk-requires : goal.may_be_leap_walk-requires
may_be_leap_walk-requires c = omega (arith, c.requires.block.not_empty, c.requires.block.no_later, c.end.ensures.sums.window.century)

pub leap_cost-requires-clause-encoded : goal.leap_cost-requires-clause-encoded
leap_cost-requires-clause-encoded c =
    let sums = c.args.self.now in
    let are = c.end.ensures.sums in
    let all = c.deref-station-items.ensures.value ∙ ap (λ (s : Sums). s.stations) c.self.view_is in
    let b = c.args.minute.now in
    let i = c.loop-station.station-index in
    let w = c.station-item.result in
    let lt = subst (λ (ws : List PricedParts). i < length ws) all c.loop-station-test.true in
    let is = c.station-item.is ∙ ap (λ (ws : List PricedParts). get_or ws i w) all in
    let within = subst (λ (v : PricedParts). sums.end ≤ v.parts.end) (sym is) (are.within i w lt) in
    omega (arith, within, ap (λ n. later_minutes n b.second) (slots sums are i w lt is), c.may_be_leap_walk.ensures.early c.if-not-may_be_leap_walk.false)

pub overflow_add-total : goal.overflow_add-total
overflow_add-total c =
    let sums = c.args.self.now in
    let are = c.end.ensures.sums in
    let all = c.deref-station-items.ensures.value ∙ ap (λ (s : Sums). s.stations) c.self.view_is in
    let i = c.loop-station.station-index in
    let w = c.station-item.result in
    let lt = subst (λ (ws : List PricedParts). i < length ws) all c.loop-station-test.true in
    let is = c.station-item.is ∙ ap (λ (ws : List PricedParts). get_or ws i w) all in
    omega (arith, small sums are _ _ (next_within sums are i w lt is c.loop-station.total c.in-Some.cost c.loop-station.invariant.bound c.in-Some.ensures.small))

pub loop-station-preserved : goal.loop-station-preserved
loop-station-preserved c =
    let sums = c.args.self.now in
    let are = c.end.ensures.sums in
    let all = c.deref-station-items.ensures.value ∙ ap (λ (s : Sums). s.stations) c.self.view_is in
    let b = c.args.minute.now in
    let i = c.loop-station.station-index in
    let w = c.station-item.result in
    let lt = subst (λ (ws : List PricedParts). i < length ws) all c.loop-station-test.true in
    let is = c.station-item.is ∙ ap (λ (ws : List PricedParts). get_or ws i w) all in
    let n = sums.window.seconds in
    let here = c.in-Some.ensures.cost
    ∙ ap (λ m. station_cost w.grid.station (cost_at w.grid.rows) m (announced_from b.second b.lo)) (slots sums are i w lt is)
    ∙ ap (station_cost w.grid.station (cost_at w.grid.rows) n) (first_is b c.requires.announced) in
    record {
      cost = next sums are i w lt is (λ (g : Grid). station_cost g.station (cost_at g.rows) n (first_of b)) _ _ c.loop-station.invariant.cost here;
      bound = next_within sums are i w lt is c.loop-station.total c.in-Some.cost c.loop-station.invariant.bound c.in-Some.ensures.small;
    }

pub returns-clause-cost : goal.returns-clause-cost
returns-clause-cost c =
    let sums = c.args.self.now in
    let are = c.end.ensures.sums in
    let all = c.deref-station-items.ensures.value ∙ ap (λ (s : Sums). s.stations) c.self.view_is in
    let at = c.loop-station in
    let past = subst (λ (ws : List PricedParts). length ws ≤ at.station-index) all c.loop-station-test.false in
    whole sums are (λ station costs. station_cost station costs sums.window.seconds (first_of c.args.minute.now)) _ _ past at.invariant.cost

pub returns-clause-small : goal.returns-clause-small
returns-clause-small c = small c.args.self.now c.end.ensures.sums _ _ c.loop-station.invariant.bound
