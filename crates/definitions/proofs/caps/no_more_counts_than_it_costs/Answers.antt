-- What counts is no more than the cost.
use Rattle.definitions.proofs.CapLaws.{counted_lower}
use Rattle.definitions.proofs.caps.no_more_counts_than_it_costs.Goals as goal

pub returns : goal.returns
returns c = counted_lower
