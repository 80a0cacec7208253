-- A walk, slot by slot.
use Rattle.std.proofs.Common.{◌≡◌, ◌+◌, ◌*◌, ◌≤◌, ℕ, if◌then◌else◌, sym, ap, ◌∙◌, arith}
use Rattle.signal_base.specs.declared.limits.TheConstants.{MOST_RECEIVERS}
use Rattle.definitions.specs.heard.Dut1.{dut1_symbol, is_dut1_second}
use Rattle.definitions.specs.sequences.Walks.{place_at}
use Rattle.definitions.proofs.CostLaws.{sum_below_more, sum_below_none}
use Rattle.sequence.proofs.Walking.{place_at-zero, walked_on}
use Rattle.symbol_cost.specs.Grid.{cost_at}
use Rattle.symbol_cost.specs.declared.limits.TheConstants.{RECEIVER_COST}
use Rattle.plain_costs.specs.Tenths.{tenths_at}
use Rattle.plain_costs.proofs.WalkLaws.{few_slots}
use Rattle.heard.proofs.WalkLaws.{in_century}
use Rattle.heard.proofs.values.value_cost.Goals as goal

pub loop-slot-init : goal.loop-slot-init
loop-slot-init c = record {
  here = sym (place_at-zero c.args.q.now);
  second = c.requires.walk.sequence.first_second;
  cost = sym (sum_below_none _);
  bound = omega arith;
}

pub overflow_add-cost : goal.overflow_add-cost
overflow_add-cost c =
    let few : c.args.grid.now.receivers ≤ MOST_RECEIVERS = omega (arith, c.receivers.ensures.bound, c.receivers.ensures.count) in
    let room = few_slots (c.loop-slot.slot + 1) c.args.grid.now.receivers (omega (arith, c.requires.walk.seconds, c.loop-slot-test.true)) few in
    let more : c.loop-slot.slot * (c.args.grid.now.receivers * RECEIVER_COST) + c.args.grid.now.receivers * RECEIVER_COST ≡ (c.loop-slot.slot + 1) * (c.args.grid.now.receivers * RECEIVER_COST) = omega arith in
    omega (arith, room, more, c.second_cost-cost.ensures.bound, c.loop-slot.invariant.bound)

pub loop-slot-preserved : goal.loop-slot-preserved
loop-slot-preserved c =
    let q = c.args.q.now in
    let g = c.args.grid.now in
    let k = c.loop-slot.slot in
    let d = tenths_at g.station c.args.i in
    let before = c.loop-slot.invariant in
    let on = walked_on q k c.loop-slot.place c.next_place-place.result before.here c.next_place-place.ensures in
    let term = λ (j : ℕ). let s = (place_at q j).1 in if is_dut1_second g.station s then cost_at g.rows j (dut1_symbol g.station d s) else 0 in
    let here : c.second_cost-cost.result ≡ term k =
    c.second_cost-cost.ensures.cost ∙ ap (λ (p : ℕ × ℕ). if is_dut1_second g.station p.1 then cost_at g.rows k (dut1_symbol g.station d p.1) else 0) before.here in
    record {
      here = on.0;
      second = on.1.second;
      cost = omega (arith, before.cost, here, sum_below_more k term);
      bound = omega (arith, before.bound, c.second_cost-cost.ensures.bound);
    }

pub next_place-place-requires-clause-century : goal.next_place-place-requires-clause-century
next_place-place-requires-clause-century c =
    in_century c.args.window.now c.args.q.now c.requires.walk.walkable c.loop-slot.slot c.loop-slot.place c.loop-slot.invariant.here c.loop-slot-test.true
