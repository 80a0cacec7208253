use Rattle.std.proofs.Common.{rules}
use Rattle.telegram_fields.proofs.Calls.{made_by_calls}
use Rattle.plain_costs.specs.Tenths.{tenths_at}
use Rattle.walk_costs.specs.Dates.{told_part, told_set}
use Rattle.walk_costs.proofs.dut.told_part.Goals as goal

pub returns : goal.returns
unfolding told_part
returns c =
    made_by_calls _ (told_set c.args.station (tenths_at c.args.station c.args.i)) _ (λ i x f' call. search rules) _ 60 c.from_fn.ensures.items
