-- No symbol costs more with bounds than without.
use Rattle.definitions.proofs.FallLaws.{bounded_le}
use Rattle.definitions.proofs.caps.a_bound_raises_no_cost.Goals as goal

pub returns : goal.returns
returns c = bounded_le
