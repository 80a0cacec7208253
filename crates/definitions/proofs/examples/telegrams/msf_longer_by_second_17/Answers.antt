-- The second more of a minute of 61 seconds at MSF.
use Rattle.std.proofs.Common.{refl}
use Rattle.definitions.proofs.examples.telegrams.msf_longer_by_second_17.Goals as goal

pub returns : goal.returns
returns c = refl
