use Rattle.minute_parts.proofs.UnionLaws.{nothing_told}
use Rattle.leap_unions.specs.declared.rows.TheConstants.{PLACES}
use Rattle.leap_unions.proofs.kept.nothing_kept.Goals as goal

pub returns-clause-row : goal.returns-clause-row
returns-clause-row c = nothing_told PLACES
