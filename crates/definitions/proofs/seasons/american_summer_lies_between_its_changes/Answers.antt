-- American summer time lies between its changes.
use Rattle.definitions.proofs.SeasonLaws.{american_summer_lies_between_its_changes}
use Rattle.definitions.proofs.seasons.american_summer_lies_between_its_changes.Goals as goal

pub returns : goal.returns
returns c = american_summer_lies_between_its_changes
