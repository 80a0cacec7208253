-- The ranges that an accepted configuration keeps.
use Rattle.std.specs.Prelude.{◌≡◌, ◌≤◌, true, All, length, string_bytes}
use Rattle.std.specs.List.{AllByRecursion}
use Rattle.signal_base.specs.Limits.{IsPriced, IsTuned}
use Rattle.signal_base.specs.declared.limits.TheConstants.{GREATEST_COST, MOST_RECEIVERS}
use Rattle.bank_config.specs.declared.config.Receiver.{Receiver}
use Rattle.bank_config.specs.declared.config.Config.{Config}
use Rattle.bank_config.specs.Configuration.{PlainConfig, PlainReceiver}
use Rattle.bank_config.specs.Values.{is_file, is_name}

-- of a receiver
pub record IsReceiverInRange (r : Receiver) : Type 0 where
  pub name : is_name (string_bytes r.name) ≡ true
  pub file : is_file (string_bytes r.file) ≡ true
  pub tuned : IsTuned r.tuning

-- of the whole
pub record IsInRange (c : Config) : Type 0 where
  pub ceiling : c.ceiling ≤ GREATEST_COST
  pub some_receiver : 1 ≤ length c.receivers.items
  pub few_receivers : length c.receivers.items ≤ MOST_RECEIVERS
  pub receivers : All IsReceiverInRange c.receivers.items
  pub priced : IsPriced c.table

-- of what contracts see of it
pub record IsPlainInRange (c : PlainConfig) : Type 0 where
  pub ceiling : c.ceiling ≤ GREATEST_COST
  pub some_receiver : 1 ≤ length c.receivers
  pub few_receivers : length c.receivers ≤ MOST_RECEIVERS
  pub tuned : AllByRecursion (λ (r : PlainReceiver). IsTuned r.tuning) c.receivers
  pub priced : IsPriced c.costs
