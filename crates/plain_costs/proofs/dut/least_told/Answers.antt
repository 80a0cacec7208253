use Rattle.std.proofs.Common.{◌≡◌, ℕ, Option, Some, List, map, unwrap_or, ℤ, ap, ◌∙◌, arith}
use Rattle.definitions.specs.heard.Costs.{least}
use Rattle.plain_costs.specs.Tenths.{value_count}
use Rattle.plain_costs.proofs.ValueLaws.{all_values, least_with, some_values, values_below}
use Rattle.plain_costs.proofs.dut.least_told.Goals as goal

pub loop-i-init : goal.loop-i-init
loop-i-init c =
    record { least = λ cost by. ap Some (by 0 (some_values c.args.station c.requires)); bound = omega arith }

pub loop-i-preserved : goal.loop-i-preserved
loop-i-preserved c = record {
  least = λ cost by.
      ap Some c.min-least.ensures
      ∙ least_with cost c.args.station c.loop-i.i c.loop-i.least _ (c.loop-i.invariant.least cost by) (by c.loop-i.i (omega (arith, c.loop-i-test.true, c.value_count-i-end.ensures.count)));
  bound = omega (arith, c.min-least.ensures, c.loop-i.invariant.bound);
}

pub returns-clause-least : goal.returns-clause-least
returns-clause-least c = λ cost by.
    let some = some_values c.args.station c.requires in
    let end : c.loop-i.i ≡ value_count c.args.station = omega (arith, some, c.value_count-i-end.ensures.count) in
    ap (λ (o : Option ℕ). unwrap_or o 0) (c.loop-i.invariant.least cost by
    ∙ ap (λ n. least (map cost (values_below c.args.station n))) end ∙ ap (λ (ds : List ℤ). least (map cost ds)) (all_values c.args.station))
