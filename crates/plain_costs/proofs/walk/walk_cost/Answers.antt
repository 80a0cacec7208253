use Rattle.std.proofs.Common.{◌≡◌, ◌*◌, ◌≤◌, refl, sym, ap, ◌∙◌, arith}
use Rattle.signal_base.specs.declared.limits.TheConstants.{MOST_RECEIVERS}
use Rattle.signal_base.specs.declared.station.Station.{Station}
use Rattle.definitions.specs.codes.Allowed.{allowed}
use Rattle.definitions.specs.sequences.Walks.{set_at}
use Rattle.definitions.specs.heard.Costs.{set_cost}
use Rattle.definitions.specs.heard.Dut1.{is_dut1_second}
use Rattle.sequence.proofs.Walking.{place_at-zero, walked_on}
use Rattle.symbol_cost.specs.Grid.{cost_at}
use Rattle.symbol_cost.specs.declared.limits.TheConstants.{RECEIVER_COST}
use Rattle.plain_costs.specs.declared.tenths.TheConstants.{MOST_VALUES}
use Rattle.plain_costs.proofs.WalkLaws.{few_slots, more, more_small, none, part_le, zeros}
use Rattle.plain_costs.proofs.walk.walk_cost.Goals as goal

pub loop-slot-init : goal.loop-slot-init
loop-slot-init c =
    let q = c.args.q.now in
    record {
      here = sym (place_at-zero q);
      second = c.requires.sequence.first_second;
      long = refl;
      cost = none c.args.station (cost_at c.args.grid.now.rows) q _ (zeros MOST_VALUES);
      small = record { all = omega arith; parted = λ i. omega (arith, zeros MOST_VALUES i) };
    }

pub overflow_add-outside : goal.overflow_add-outside
overflow_add-outside c =
    let part = part_le (is_dut1_second c.args.station c.loop-slot.place.1) c.cost-cost.result c.outside_dut1-outside.result c.outside_dut1-outside.ensures in
    let few : c.args.grid.now.receivers ≤ MOST_RECEIVERS = omega (arith, c.receivers.ensures.bound, c.receivers.ensures.count) in
    let room = few_slots c.loop-slot.slot c.args.grid.now.receivers (omega (arith, c.requires.seconds, c.loop-slot-test.true)) few in
    omega (arith, room, part, few, c.cost-cost.ensures.bound, c.loop-slot.invariant.small.parted 0)

pub loop-slot-preserved : goal.loop-slot-preserved
loop-slot-preserved c =
    let q = c.args.q.now in
    let station = c.args.station in
    let g = c.args.grid.now in
    let k = c.loop-slot.slot in
    let place = c.loop-slot.place in
    let before = c.loop-slot.invariant in
    let on = walked_on q k place c.next_place-place.result before.here c.next_place-place.ensures in
    let price : c.cost-cost.result ≡ set_cost station (cost_at g.rows k) (set_at station q k) =
    c.cost-cost.ensures.cost ∙ ap (λ (s : Station). set_cost s (cost_at g.rows k) c.set_in.result) c.requires.of_station
    ∙ ap (set_cost station (cost_at g.rows k)) (c.set_in.ensures ∙ ap (allowed station q.announced) before.here) in
    record {
      here = on.0;
      second = on.1.second;
      long = c.add_told.array_long;
      cost = more station (cost_at g.rows) q k c.set_in.result c.cost-cost.result c.outside_dut1-outside.result c.add_told.new.told place _ before.cost before.here price c.outside_dut1-outside.ensures c.add_told.ensures.adds;
      small = more_small (g.receivers * RECEIVER_COST) k c.cost-cost.result c.outside_dut1-outside.result c.add_told.new.told (is_dut1_second station place.1) _ _ before.small c.cost-cost.ensures.bound c.outside_dut1-outside.ensures c.add_told.ensures.bound;
    }

pub returns-clause-greatest : goal.returns-clause-greatest
returns-clause-greatest c =
    let few : c.args.grid.now.receivers ≤ MOST_RECEIVERS = omega (arith, c.receivers.ensures.bound, c.receivers.ensures.count) in
    let end : c.loop-slot.slot ≡ c.args.window.now.seconds = omega arith in
    let room = few_slots c.loop-slot.slot c.args.grid.now.receivers (omega (arith, end, c.requires.seconds)) few in
    let small = c.loop-slot.invariant.small in
    record { all = omega (arith, small.all, room); parted = λ i. omega (arith, small.parted i, room) }
