use Rattle.signal_base.specs.declared.limits.TheConstants.{MOST_SECONDS}
use Rattle.plain_costs.proofs.WalkLaws.{zeros}
use Rattle.plain_costs.proofs.unions.no_sets.Goals as goal

pub returns : goal.returns
returns c = zeros MOST_SECONDS
