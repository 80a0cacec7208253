-- Two sequences differ by as much with bounds that no second reaches as without.
use Rattle.definitions.proofs.FallLaws.{difference_same}
use Rattle.definitions.proofs.caps.bounds_out_of_reach_change_no_difference.Goals as goal

pub returns : goal.returns
returns c = λ table bank begin window q r within walkable also scored too. difference_same table bank begin window within q r walkable also scored too
