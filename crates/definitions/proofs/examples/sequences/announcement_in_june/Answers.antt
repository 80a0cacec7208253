-- An announcement that WWVB tells and DCF77 doesn't.
use Rattle.std.proofs.Common.{refl}
use Rattle.definitions.proofs.JuneLaws.{told, not_told}
use Rattle.definitions.proofs.examples.sequences.announcement_in_june.Goals as goal

pub returns-clause-told : goal.returns-clause-told
returns-clause-told c = told 4 refl

pub returns-clause-not_told : goal.returns-clause-not_told
returns-clause-not_told c = not_told

pub returns-clause-told_by_one : goal.returns-clause-told_by_one
returns-clause-told_by_one c = told 5 refl
