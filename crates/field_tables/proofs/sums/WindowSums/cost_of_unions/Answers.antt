use Rattle.std.proofs.Common.{◌≡◌, ◌+◌, ◌<◌, ◌≤◌, ℕ, List, length, get_or, sym, ap, ◌∙◌, subst, arith}
use Rattle.definitions.specs.heard.Costs.{set_cost, sum_below}
use Rattle.symbol_cost.specs.Grid.{Grid, cost_at}
use Rattle.slot_columns.specs.Parts.{most_cost}
use Rattle.minute_parts.specs.Unions.{AreRegular}
use Rattle.minute_parts.specs.Walks.{later_minutes}
use Rattle.walk_costs.specs.Walks.{PricedParts}
use Rattle.block_costs.specs.Blocks.{AreUnionsOfWalks, unions_cost}
use Rattle.field_tables.specs.Sums.{AreSums, Sums}
use Rattle.field_tables.proofs.SumLaws.{next, next_within, of_walks, price_of, regular, small, whole}
use Rattle.field_tables.proofs.sums.WindowSums.cost_of_unions.Goals as goal

pub invariant_of-all-clause-regular : goal.invariant_of-all-clause-regular
invariant_of-all-clause-regular c =
    let are = subst AreSums c.self.view_is c.self.invariant.0 in
    let all = c.deref-station-items.ensures.value ∙ ap (λ (s : Sums). s.stations) c.self.view_is in
    let b = c.args.block.now in
    let i = c.loop-station.station-index in
    let w = c.station-item.result in
    let lt = subst (λ (ws : List PricedParts). i < length ws) all c.loop-station-test.true in
    let is = c.station-item.is ∙ ap (λ (ws : List PricedParts). get_or ws i w) all in
    subst (λ (v : PricedParts). AreRegular b.announced b.lo (c.args.hi + later_minutes (length v.grid.rows) b.second) v.parts.end) (sym (c.walks.ensures ∙ c.blocks-blocks.ensures))
    (regular c.args.self.now are i w lt is b.announced b.second b.lo c.args.hi c.requires.regular)

pub overflow_add-total : goal.overflow_add-total
overflow_add-total c =
    let are = subst AreSums c.self.view_is c.self.invariant.0 in
    let all = c.deref-station-items.ensures.value ∙ ap (λ (s : Sums). s.stations) c.self.view_is in
    let i = c.loop-station.station-index in
    let w = c.station-item.result in
    let lt = subst (λ (ws : List PricedParts). i < length ws) all c.loop-station-test.true in
    let is = c.station-item.is ∙ ap (λ (ws : List PricedParts). get_or ws i w) all in
    let most = subst (λ (v : PricedParts). c.union_cost-total.result ≤ most_cost v.grid) c.blocks-blocks.ensures c.union_cost-total.ensures.bound in
    omega (arith, small c.args.self.now are _ _ (next_within c.args.self.now are i w lt is c.loop-station.total c.union_cost-total.result c.loop-station.invariant.bound most))

pub loop-station-preserved : goal.loop-station-preserved
loop-station-preserved c =
    let are = subst AreSums c.self.view_is c.self.invariant.0 in
    let all = c.deref-station-items.ensures.value ∙ ap (λ (s : Sums). s.stations) c.self.view_is in
    let b = c.args.block.now in
    let n = c.args.self.now.window.seconds in
    let i = c.loop-station.station-index in
    let w = c.station-item.result in
    let lt = subst (λ (ws : List PricedParts). i < length ws) all c.loop-station-test.true in
    let is = c.station-item.is ∙ ap (λ (ws : List PricedParts). get_or ws i w) all in
    let most = subst (λ (v : PricedParts). c.union_cost-total.result ≤ most_cost v.grid) c.blocks-blocks.ensures c.union_cost-total.ensures.bound in
    let cost = subst (λ (v : PricedParts). (sets : ℕ → ℕ) → AreUnionsOfWalks v.grid.station b.announced b.second b.lo c.args.hi (length v.grid.rows) sets
    → c.union_cost-total.result ≡ unions_cost v.grid sets) c.blocks-blocks.ensures c.union_cost-total.ensures.cost in
    record {
      cost = λ unions over.
          next c.args.self.now are i w lt is (λ (g : Grid). sum_below n (λ k. set_cost g.station (cost_at g.rows k) (unions g.station k))) _ _
          (c.loop-station.invariant.cost unions over)
          (price_of c.args.self.now are i w lt is (unions w.grid.station) _ (cost (unions w.grid.station) (of_walks c.args.self.now are i w lt is b c.args.hi unions over)));
      bound = next_within c.args.self.now are i w lt is c.loop-station.total c.union_cost-total.result c.loop-station.invariant.bound most;
    }

pub returns-clause-cost : goal.returns-clause-cost
returns-clause-cost c = λ unions over.
    let are = subst AreSums c.self.view_is c.self.invariant.0 in
    let all = c.deref-station-items.ensures.value ∙ ap (λ (s : Sums). s.stations) c.self.view_is in
    let n = c.args.self.now.window.seconds in
    let past = subst (λ (ws : List PricedParts). length ws ≤ c.loop-station.station-index) all c.loop-station-test.false in
    whole c.args.self.now are (λ station costs. sum_below n (λ k. set_cost station (costs k) (unions station k))) _ _ past (c.loop-station.invariant.cost unions over)
