-- Different days have different dates.
use Rattle.definitions.proofs.DateLaws.{days_differ}
use Rattle.definitions.proofs.laws.days_differ.Goals as goal

pub returns : goal.returns
returns c = days_differ
