use Rattle.std.proofs.Common.{arith, ap, ◌∙◌}
use Rattle.plain_costs.specs.Tenths.{tenths_at}
use Rattle.walk_costs.specs.Dates.{part_cost}
use Rattle.walk_costs.proofs.ToldLaws.{not_less}
use Rattle.walk_costs.proofs.dut.told_cost.Goals as goal

pub returns-clause-not_less : goal.returns-clause-not_less
returns-clause-not_less c =
    let grid = c.args.columns.now in
    let less = not_less grid c.args.station c.args.p (tenths_at c.args.station c.args.i) c.requires.station c.requires.some in
    let is = c.part_cost.ensures.cost ∙ ap (part_cost grid c.args.p) c.told_part.ensures in
    omega (arith, less, is)
