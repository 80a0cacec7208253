use Rattle.formats.proofs.ShareLaws.{sums_law}
use Rattle.formats.proofs.heard_law.receivers_share_the_cost.Goals as goal

pub returns : goal.returns
returns c = sums_law
