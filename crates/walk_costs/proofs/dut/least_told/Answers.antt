use Rattle.std.proofs.Common.{◌≡◌, ℕ, Option, Some, List, map, unwrap_or, ℤ, ap, ◌∙◌, arith}
use Rattle.signal_base.specs.declared.station.Station.{Station}
use Rattle.definitions.specs.heard.Costs.{least}
use Rattle.definitions.specs.heard.Dut1.{dut1_values}
use Rattle.plain_costs.specs.Tenths.{value_count}
use Rattle.plain_costs.proofs.ValueLaws.{all_values, least_with, some_values, values_below}
use Rattle.walk_costs.specs.Dates.{part_cost, told_part}
use Rattle.walk_costs.proofs.dut.least_told.Goals as goal

pub loop-i-init : goal.loop-i-init
loop-i-init c = record { least = ap Some c.told_cost-least.ensures.cost; not_less = c.told_cost-least.ensures.not_less }

pub loop-i-preserved : goal.loop-i-preserved
loop-i-preserved c =
    let cost = λ (d : ℤ). part_cost c.args.columns.now c.args.p (told_part c.args.station d) in
    record {
      least =
          ap Some c.min-least.ensures
          ∙ least_with cost c.args.station c.loop-i.i c.loop-i.least _ c.loop-i.invariant.least c.told_cost.ensures.cost;
      not_less = omega (arith, c.min-least.ensures, c.loop-i.invariant.not_less, c.told_cost.ensures.not_less);
    }

pub returns-clause-least : goal.returns-clause-least
returns-clause-least c =
    let cost = λ (t : Station) (d : ℤ). part_cost c.args.columns.now c.args.p (told_part t d) in
    let station = c.args.station in
    let some = some_values station c.requires.some in
    let end : c.loop-i.i ≡ value_count station = omega (arith, some, c.value_count-i-end.ensures.count) in
    ap (λ (o : Option ℕ). unwrap_or o 0) (c.loop-i.invariant.least
    ∙ ap (λ n. least (map (cost station) (values_below station n))) end ∙ ap (λ (ds : List ℤ). least (map (cost station) ds)) (all_values station))
    ∙ ap (λ (t : Station). unwrap_or (least (map (cost t) (dut1_values t))) 0) c.requires.station
