-- The configuration is judged before any log is.
use Rattle.std.proofs.Common.{Some, refl}
use Rattle.formats.specs.declared.key.KeyName.TheVariants as name
use Rattle.formats.specs.declared.refusal.Refusal.TheVariants.{ConfigOutOfRange, ConfigTooLarge}
use Rattle.bank_config.specs.declared.fault.ConfigFault.TheVariants.{OutOfRange}
use Rattle.bank_config.specs.declared.fault.Key.TheVariants as key
use Rattle.due.specs.Configurations.{Bad_key, Too_large}
use Rattle.due.specs.Loads.{Bad_configuration}
use Rattle.due.specs.Rules.{Bad_bank}
use Rattle.due.proofs.ExampleLaws.{decode_asks, decoded}
use Rattle.due.proofs.examples.bad_configurations.Goals as goal

pub returns-clause-size : goal.returns-clause-size
returns-clause-size c = λ config first second large. Bad_bank decoded decode_asks ConfigTooLarge (Bad_configuration (Too_large large refl)) refl

pub returns-clause-weight : goal.returns-clause-weight
returns-clause-weight c = λ config first second fits bad.
    Bad_bank decoded decode_asks (ConfigOutOfRange name.Weight (Some 1)) (Bad_configuration (Bad_key fits (OutOfRange (key.Weight 1)) bad refl)) refl
