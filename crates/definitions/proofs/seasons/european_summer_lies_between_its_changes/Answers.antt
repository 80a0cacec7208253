-- Summer time lies between its changes.
use Rattle.definitions.proofs.SeasonLaws.{european_summer_lies_between_its_changes}
use Rattle.definitions.proofs.seasons.european_summer_lies_between_its_changes.Goals as goal

pub returns : goal.returns
returns c = european_summer_lies_between_its_changes
