-- The configuration that a text is: its keys, checked in the order in which they stand here.
use Rattle.std.specs.Prelude.{ℕ, ◌&&◌, nat_le, Bool, true, if◌then◌else◌, List, length, map, Option, Some, None, Ok, Err, codes, string_bytes}
use Rattle.std.specs.Option.{option_map_or}
use Rattle.std.specs.List.{list_all}
use Rattle.std.specs.Str.{is_utf8}
use Rattle.signal_base.specs.declared.station.Station.{Station}
use Rattle.signal_base.specs.declared.tuning.Tuning.{Tuning}
use Rattle.signal_base.specs.declared.tuning.CostTable.{CostTable}
use Rattle.signal_base.specs.Table.{difference_table}
use Rattle.toml.specs.Data.{Data, table, Members, get}
use Rattle.toml.specs.Parse.{parse_document}
use Rattle.bank_config.specs.declared.config.Receiver.{Receiver}
use Rattle.bank_config.specs.declared.config.Config.{Config}
use Rattle.bank_config.specs.declared.fault.Key.{Key}
use Rattle.bank_config.specs.declared.fault.Key.TheVariants as key
use Rattle.bank_config.specs.declared.fault.ConfigFault.TheVariants.{NotToml, WrongKind, UnknownKey}
use Rattle.signal_base.specs.declared.limits.TheConstants.{GREATEST_COST, LEAST_SECOND_COST, LEAST_WEIGHT, MOST_DELAY, MOST_RECEIVERS, MOST_SECOND_COST, MOST_WEIGHT}
use Rattle.bank_config.specs.declared.limits.TheConstants.{DEFAULT_CEILING, DEFAULT_DELAY, DEFAULT_WEIGHT}
use Rattle.bank_config.specs.declared.places.Place.TheVariants.{Top, OfReceiver, OfTable}
use Rattle.bank_config.specs.Checked.{Checked, ◌>>=◌, required, optional, if_given, in_range}
use Rattle.bank_config.specs.Values.{all_of_kind, costs_in, each, is_file, is_name, is_table, list_in, number_in, station_in, text_in}
use Rattle.bank_config.specs.Places.{knows_all}

-- what contracts see of a receiver
pub record PlainReceiver : Type 0 where
  pub name : List ℕ
  pub file : List ℕ
  pub tuning : Tuning
  pub station : Station

-- what contracts see of a configuration
pub record PlainConfig : Type 0 where
  pub station : Station
  pub ceiling : ℕ
  pub receivers : List PlainReceiver
  pub costs : CostTable

abbrev pub plain_receiver : Receiver → PlainReceiver
plain_receiver r = record { name = string_bytes r.name; file = string_bytes r.file; tuning = r.tuning; station = r.station }

abbrev pub plain_config : Config → PlainConfig
plain_config c = record { station = c.station; ceiling = c.ceiling; receivers = map plain_receiver c.receivers.items; costs = c.table }

-- a receiver's name, and its log
abbrev pub name_at : Key → Data → Checked (List ℕ)
name_at k value = required k (get (codes "name") value) >>= text_in k >>= in_range k is_name

abbrev pub file_at : Key → Data → Checked (List ℕ)
file_at k value = required k (get (codes "log") value) >>= text_in k >>= in_range k is_file

-- a number that may stand at a key, from the least to the most, else the default
abbrev pub number_at : Key → List ℕ → ℕ → ℕ → ℕ → Data → Checked ℕ
number_at k word least most default value = optional default (number_in k least most) (get word value)

-- what a second costs at the most, if it is given
abbrev pub second_at : Key → Data → Checked (Option ℕ)
second_at k value = if_given (number_in k LEAST_SECOND_COST MOST_SECOND_COST) (get (codes "second") value)

-- A cost table: that of a receiver, or else the bank's. What it leaves out is as in the table that counts the milliseconds
-- that differ, whatever another table says.
abbrev pub cost_table_in : Option ℕ → Data → Checked CostTable
cost_table_in receiver value =
    if is_table value
    then (
    optional difference_table.low (costs_in (key.Low receiver)) (get (codes "low") value) >>= (λ low.
    optional difference_table.high (costs_in (key.High receiver)) (get (codes "high") value) >>= (λ high.
    second_at (key.Second receiver) value >>= (λ second.
    Ok (record { low = low; high = high; second = second }))))
    )
    else Err (WrongKind (key.CostTable receiver))

-- the receiver of this number, which listens to the station at the top if it names none
abbrev pub receiver_in : Station → ℕ → Data → Checked PlainReceiver
receiver_in top number value =
    name_at (key.Name number) value >>= (λ name.
    file_at (key.File number) value >>= (λ file.
    number_at (key.Delay number) (codes "delay_ms") 0 MOST_DELAY DEFAULT_DELAY value >>= (λ delay.
    number_at (key.Weight number) (codes "weight") LEAST_WEIGHT MOST_WEIGHT DEFAULT_WEIGHT value >>= (λ weight.
    optional top (station_in (key.ReceiverStation number)) (get (codes "station") value) >>= (λ station.
    if_given (cost_table_in (Some number)) (get (codes "table") value) >>= (λ own.
    Ok (record { name = name; file = file; tuning = record { delay = delay; weight = weight; table = own }; station = station })))))))

-- the receivers' tables: tables only, 1 to 8 of them
abbrev pub tables_in : Data → Checked (List Data)
tables_in value =
    list_in key.Receiver value
    >>= all_of_kind key.Receiver (list_all is_table)
    >>= in_range key.Receiver (λ entries. nat_le 1 (length entries) && nat_le (length entries) MOST_RECEIVERS)

-- no unknown key stands in the cost table of what may have one
abbrev pub table_known : Data → Bool
table_known value = option_map_or (knows_all OfTable) (get (codes "table") value) true

-- no unknown key stands in a receiver or in its cost table
abbrev pub receiver_known : Data → Bool
receiver_known value = knows_all OfReceiver value && table_known value

-- no unknown key stands at the top, in a receiver or in a cost table
abbrev pub all_known : Data → List Data → Bool
all_known config receivers = knows_all Top config && list_all receiver_known receivers && table_known config

-- the configuration of a table, or the first fault in the order of the keys; an unknown key comes last
abbrev pub configuration_in : Data → Checked PlainConfig
configuration_in config =
    required key.Station (get (codes "station") config) >>= station_in key.Station >>= (λ station.
    number_at key.Ceiling (codes "ceiling") 0 GREATEST_COST DEFAULT_CEILING config >>= (λ ceiling.
    required key.Receiver (get (codes "receiver") config) >>= tables_in >>= (λ tables.
    each (receiver_in station) 1 tables >>= (λ receivers.
    optional difference_table (cost_table_in None) (get (codes "table") config) >>= (λ costs.
    if all_known config tables
    then Ok (record { station = station; ceiling = ceiling; receivers = receivers; costs = costs })
    else Err UnknownKey)))))

-- the configuration of a document, if there is one
abbrev pub configuration_of_document : Option Members → Checked PlainConfig
configuration_of_document None = Err NotToml
configuration_of_document (Some members) = configuration_in (table members)

-- the configuration of a text
abbrev pub configuration_of : List ℕ → Checked PlainConfig
configuration_of bytes = configuration_of_document (if is_utf8 bytes then parse_document bytes else None)
