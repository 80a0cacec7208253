use Rattle.std.proofs.Common.{◌∙◌}
use Rattle.slot_columns.proofs.LayerLaws.{pair_alone}
use Rattle.slot_columns.proofs.layered.LayerTable.cost.Goals as goal

pub returns : goal.returns
returns c = c.cost_of_both.ensures ∙ pair_alone c.args.self.now c.args.i c.args.p
