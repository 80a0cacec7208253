-- The configuration that a run reads, and what is refused of it.
use Rattle.std.specs.Prelude.{ℕ, ◌+◌, ◌≡◌, ◌<◌, ◌≤◌, List, [], ◌∷◌, length, Option, Some, None, Ok, Err}
use Rattle.formats.specs.declared.key.KeyName.{KeyName}
use Rattle.formats.specs.declared.key.KeyName.TheVariants as name
use Rattle.formats.specs.declared.refusal.Refusal.{Refusal}
use Rattle.formats.specs.declared.refusal.Refusal.TheVariants.{ConfigTooLarge, ConfigNotToml, ConfigMissing, ConfigWrongKind, ConfigOutOfRange, ConfigUnknownKey}
use Rattle.bank_config.specs.declared.limits.TheConstants.{CONFIG_LIMIT}
use Rattle.bank_config.specs.declared.fault.Key.{Key}
use Rattle.bank_config.specs.declared.fault.Key.TheVariants as key
use Rattle.bank_config.specs.declared.fault.ConfigFault.{ConfigFault}
use Rattle.bank_config.specs.declared.fault.ConfigFault.TheVariants.{NotToml, Missing, WrongKind, OutOfRange, UnknownKey, NoMemory}
use Rattle.bank_config.specs.Configuration.{PlainConfig, PlainReceiver, configuration_of}
use Rattle.due.specs.LogFiles.{LogFile}

-- the name of a key, and the number of the receiver that it is of; the bank's cost table and its keys are of none
abbrev pub name_of : Key → KeyName
name_of key.Station = name.Station
name_of key.Ceiling = name.Ceiling
name_of key.Receiver = name.Receiver
name_of (key.Name receiver) = name.Name
name_of (key.File receiver) = name.Log
name_of (key.Delay receiver) = name.Delay
name_of (key.Weight receiver) = name.Weight
name_of (key.ReceiverStation receiver) = name.Station
name_of (key.CostTable receiver) = name.Table
name_of (key.Low receiver) = name.Low
name_of (key.High receiver) = name.High
name_of (key.Second receiver) = name.Second

abbrev pub receiver_of : Key → Option ℕ
receiver_of (key.Name receiver) = Some receiver
receiver_of (key.File receiver) = Some receiver
receiver_of (key.Delay receiver) = Some receiver
receiver_of (key.Weight receiver) = Some receiver
receiver_of (key.ReceiverStation receiver) = Some receiver
receiver_of (key.CostTable receiver) = receiver
receiver_of (key.Low receiver) = receiver
receiver_of (key.High receiver) = receiver
receiver_of (key.Second receiver) = receiver
receiver_of other = None

-- The line that a fault of a text gets. Want of memory is no fault of a text, and gets none.
abbrev pub fault_refusal : ConfigFault → Option Refusal
fault_refusal NotToml = Some ConfigNotToml
fault_refusal (Missing k) = Some (ConfigMissing (name_of k) (receiver_of k))
fault_refusal (WrongKind k) = Some (ConfigWrongKind (name_of k) (receiver_of k))
fault_refusal (OutOfRange k) = Some (ConfigOutOfRange (name_of k) (receiver_of k))
fault_refusal UnknownKey = Some ConfigUnknownKey
fault_refusal NoMemory = None

-- these bytes are a configuration
pub record IsConfiguration (bytes : List ℕ) (config : PlainConfig) : Type 0 where
  pub fits : length bytes ≤ CONFIG_LIMIT
  pub says : configuration_of bytes ≡ Ok config

-- the bytes are refused so: for their number, or else for the first fault
pub data IsBadConfiguration (bytes : List ℕ) (refusal : Refusal) : Type 0 where
  Too_large : CONFIG_LIMIT < length bytes → refusal ≡ ConfigTooLarge → IsBadConfiguration bytes refusal
  Bad_key : length bytes ≤ CONFIG_LIMIT → (fault : ConfigFault) → configuration_of bytes ≡ Err fault
      → fault_refusal fault ≡ Some refusal → IsBadConfiguration bytes refusal

-- the logs of some receivers, of which the first has this number
abbrev pub logs_from : ℕ → List PlainReceiver → List LogFile
logs_from number [] = []
logs_from number (r ∷ rs) = record { receiver = number; name = r.name; file = r.file } ∷ logs_from (number + 1) rs

-- the logs of a configuration, in the order of its receivers
abbrev pub logs_of : PlainConfig → List LogFile
logs_of config = logs_from 1 config.receivers
