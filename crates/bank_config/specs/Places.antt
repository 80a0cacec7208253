-- Where a key stands, and which keys are known there.
use Rattle.std.specs.Prelude.{ℕ, Bool, true, List, [], ◌∷◌, bytes_eq, codes}
use Rattle.std.specs.List.{list_all, list_any}
use Rattle.std.specs.Option.{option_map_or}
use Rattle.toml.specs.Data.{Data, Members, no_members, member, as_table}
use Rattle.bank_config.specs.declared.places.Place.{Place}
use Rattle.bank_config.specs.declared.places.Place.TheVariants.{Top, OfReceiver, OfTable}

-- the keys that may stand there
abbrev pub known_keys : Place → List (List ℕ)
known_keys Top = codes "station" ∷ codes "ceiling" ∷ codes "receiver" ∷ codes "table" ∷ []
known_keys OfReceiver = codes "name" ∷ codes "log" ∷ codes "delay_ms" ∷ codes "weight" ∷ codes "station" ∷ codes "table" ∷ []
known_keys OfTable = codes "low" ∷ codes "high" ∷ codes "second" ∷ []

abbrev pub is_known : Place → List ℕ → Bool
is_known place key = list_any (bytes_eq key) (known_keys place)

-- the keys of a table
abbrev pub keys_in : Members → List (List ℕ)
keys_in no_members = []
keys_in (member key value more) = key ∷ keys_in more

-- the keys of the value, if it is a table, are all known there
abbrev pub knows_all : Place → Data → Bool
knows_all place value = option_map_or (λ members. list_all (is_known place) (keys_in members)) (as_table value) true
