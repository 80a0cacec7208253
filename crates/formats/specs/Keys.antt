-- The words for the keys of a configuration.
use Rattle.std.specs.Prelude.{ℕ, List, codes}
use Rattle.formats.specs.declared.key.KeyName.{KeyName}
use Rattle.formats.specs.declared.key.KeyName.TheVariants.{Station, Ceiling, Receiver, Name, Log, Delay, Weight, Table, Low, High, Second}

abbrev pub key_word : KeyName → List ℕ
key_word Station = codes "station"
key_word Ceiling = codes "ceiling"
key_word Receiver = codes "receiver"
key_word Name = codes "name"
key_word Log = codes "log"
key_word Delay = codes "delay_ms"
key_word Weight = codes "weight"
key_word Table = codes "table"
key_word Low = codes "low"
key_word High = codes "high"
key_word Second = codes "second"
