-- The names are computed.
use Rattle.std.proofs.Common.{refl}
use Rattle.std.specs.Fmt.{digits}
use Rattle.formats.specs.WordValues.{number_of}
use Rattle.sweep_due.proofs.examples.files_of_a_sweep.Goals as goal

pub returns-clause-told : goal.returns-clause-told
unfolding digits number_of
returns-clause-told c = refl

pub returns-clause-certificates : goal.returns-clause-certificates
unfolding digits number_of
returns-clause-certificates c = refl
