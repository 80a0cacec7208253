use Rattle.std.proofs.Common.{ℕ, ◌+◌, ◌-◌, ◌*◌, inl, inr, length, sym, ap, ◌∙◌, arith}
use Rattle.signal_base.specs.declared.station.Station.{Station}
use Rattle.definitions.proofs.CostLaws.{sum_below_more}
use Rattle.slot_columns.proofs.MinuteLaws.{in_minute, inside, same_sum}
use Rattle.slot_columns.proofs.SumLaws.{sum_of_none}
use Rattle.minute_parts.specs.Overlay.{is_given_up}
use Rattle.walk_costs.specs.Dates.{given_up, given_up_set}
use Rattle.walk_costs.proofs.CallLaws.{beside_call, given_at, tells_of_call}
use Rattle.walk_costs.proofs.SumLaws.{cost_in}
use Rattle.walk_costs.proofs.WalkLaws.{none_lost}
use Rattle.walk_costs.proofs.call.call_cost.Goals as goal

pub returns-then-not-gives_up : goal.returns-then-not-gives_up
returns-then-not-gives_up c =
    let keeps = λ (s : ℕ). ap (λ (t : Station). is_given_up t s) (sym c.station-station.ensures) ∙ c.gives_up.ensures c.if-not-gives_up.true s in
    record { cost = sym (none_lost c.args.columns.now c.args.p c.args.m c.args.part.now keeps); small = omega arith }

pub loop-k-init : goal.loop-k-init
loop-k-init c =
    let grid = c.args.columns.now in
    let lost = given_up grid.station c.args.part.now in
    record {
      cost = sym (sum_of_none c.saturating_sub-from.result (in_minute grid c.args.p c.args.m lost)
          (λ k lt. beside_call grid c.args.p c.args.m lost k (tells_of_call grid.station c.args.part.now) (inl (omega arith))));
      reached = omega arith;
      bound = omega arith;
    }

pub loop-k-preserved : goal.loop-k-preserved
loop-k-preserved c =
    let k = c.loop-k.k in
    let grid = c.args.columns.now in
    let lost = given_up grid.station c.args.part.now in
    let s : ℕ = c.args.p + k - 60 * c.args.m in
    let here = inside grid c.args.p c.args.m lost k s (omega arith) (omega arith) in
    let set = c.given_up_set.ensures ∙ ap (λ (t : Station). given_up_set t c.args.part.now s) c.station-station.ensures
    ∙ sym (given_at grid.station c.args.part.now s (omega arith)) in
    record {
      cost = omega (arith, c.loop-k.invariant.cost, sum_below_more k (in_minute grid c.args.p c.args.m lost), here, c.cost-cost.ensures.cost, ap (cost_in grid k) set);
      reached = omega arith;
      bound = omega (arith, c.loop-k.invariant.bound, c.cost-cost.ensures.bound, c.receivers.ensures.count, c.receivers.ensures.bound);
    }

pub returns : goal.returns
returns c =
    let grid = c.args.columns.now in
    let lost = given_up grid.station c.args.part.now in
    let n : ℕ = length grid.rows in
    record {
      cost = c.loop-k.invariant.cost
          ∙ same_sum c.loop-k.k n (in_minute grid c.args.p c.args.m lost)
          (λ i le within. beside_call grid c.args.p c.args.m lost i (tells_of_call grid.station c.args.part.now) (inr (omega arith)))
          (λ i le lt. beside_call grid c.args.p c.args.m lost i (tells_of_call grid.station c.args.part.now) (inl (omega arith)));
      small = omega (arith, c.loop-k.invariant.bound, c.loop-k.invariant.reached);
    }
