-- What examples of configurations are about.
use Rattle.std.specs.Prelude.{ℕ, pos, List, [], ◌∷◌, codes, replicate, Some, None}
use Rattle.signal_base.specs.declared.station.Station.{Station}
use Rattle.signal_base.specs.declared.station.Station.TheVariants.{Jjy}
use Rattle.signal_base.specs.declared.tuning.CostTable.{CostTable}
use Rattle.signal_base.specs.Table.{difference_table}
use Rattle.toml.specs.Data.{Data, Items, Members, array, integer, item, member, no_items, no_members, string, table}
use Rattle.bank_config.specs.Configuration.{PlainReceiver}

-- a table with these keys and values
abbrev pub members_of : List (List ℕ × Data) → Members
members_of [] = no_members
members_of (m ∷ ms) = member m.0 m.1 (members_of ms)

-- a list of these values
abbrev pub items_of : List Data → Items
items_of [] = no_items
items_of (d ∷ ds) = item d (items_of ds)

-- a number of TOML that isn't below 0
abbrev pub number : ℕ → Data
number n = integer (pos n)

-- a receiver by its name and its log, with these keys besides
abbrev pub receiver_with : List (List ℕ × Data) → Data
receiver_with more = table (members_of ((codes "name", string (codes "north")) ∷ (codes "log", string (codes "n.log")) ∷ more))

-- such a receiver, with this delay and this weight
abbrev pub receiver_tuned : ℕ → ℕ → Station → PlainReceiver
receiver_tuned delay weight station =
    record { name = codes "north"; file = codes "n.log"; tuning = record { delay = delay; weight = weight; table = None }; station = station }

-- a cost table under its key, with these keys and values
abbrev pub costing : List (List ℕ × Data) → List (List ℕ × Data)
costing keys = (codes "table", table (members_of keys)) ∷ []

-- the default table, where a second costs so much at the most
abbrev pub at_most : ℕ → CostTable
at_most most = record { low = difference_table.low; high = difference_table.high; second = Some most }

-- the receiver of JJY with this table of its own
abbrev pub receiver_costing : CostTable → PlainReceiver
receiver_costing own =
    record { name = codes "north"; file = codes "n.log"; tuning = record { delay = 0; weight = 1; table = Some own }; station = Jjy }

-- a configuration of JJY with this ceiling and these receivers, with these keys besides
abbrev pub configured_with : ℕ → List Data → List (List ℕ × Data) → Data
configured_with ceiling receivers more =
    table (members_of ((codes "station", string (codes "jjy")) ∷ (codes "ceiling", number ceiling)
    ∷ (codes "receiver", array (items_of receivers)) ∷ more))

-- a configuration of JJY with this ceiling and so many receivers that give their names and their logs alone
abbrev pub configured : ℕ → ℕ → Data
configured ceiling receivers = configured_with ceiling (replicate receivers (receiver_with [])) []

-- a list of 101 such costs
abbrev pub costs_of : ℕ → Data
costs_of cost = array (items_of (replicate 101 (number cost)))
