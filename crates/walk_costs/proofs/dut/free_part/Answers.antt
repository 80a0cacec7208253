use Rattle.std.proofs.Common.{rules}
use Rattle.telegram_fields.proofs.Calls.{made_by_calls}
use Rattle.walk_costs.specs.Dates.{free_part, free_set}
use Rattle.walk_costs.proofs.dut.free_part.Goals as goal

pub returns : goal.returns
unfolding free_part
returns c =
    made_by_calls _ (free_set c.args.station) _ (λ i x f' call. search rules) _ 60 c.from_fn.ensures.items
