use Rattle.minute_parts.proofs.UnionLaws.{nothing_told}
use Rattle.minute_parts.proofs.part.nothing.Goals as goal

pub returns : goal.returns
returns c = nothing_told 60
