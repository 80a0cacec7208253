-- Stations of a bank.
use Rattle.std.proofs.Common.{refl}
use Rattle.definitions.proofs.examples.receivers.stations_are_listed.Goals as goal

pub returns-clause-all : goal.returns-clause-all
returns-clause-all c = refl

pub returns-clause-some : goal.returns-clause-some
returns-clause-some c = refl
