use Rattle.block_costs.specs.Hours.{AreHourLayers}
use Rattle.block_costs.proofs.local_hours.hours_of.Given as goal

abbrev pub invariant-loop : goal.invariant-loop
invariant-loop l = AreHourLayers l.walks l.begin l.call l.firsts.items l.rests.items
