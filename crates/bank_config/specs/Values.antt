-- What a value of TOML says, where a key wants a text, a whole number or a list.
use Rattle.std.specs.Prelude.{ℕ, ◌+◌, ◌==◌, ◌&&◌, ◌||◌, nat_le, not, ℤ, pos, negsuc, Bool, if◌then◌else◌, List, [], ◌∷◌, length, slice_index, Option, Some, None, is_some, option_map, Ok, Err, bytes_eq, ok_or}
use Rattle.std.specs.List.{list_all}
use Rattle.signal_base.specs.declared.station.Station.{Station}
use Rattle.signal_base.specs.declared.station.Station.TheVariants.{Dcf77, Msf, Wwvb, Jjy}
use Rattle.formats.specs.Bytes.{station_name}
use Rattle.formats.specs.declared.limits.TheConstants.{LONGEST_NAME}
use Rattle.toml.specs.Data.{Data, Items, no_items, item, as_str, as_integer, as_array, as_table}
use Rattle.bank_config.specs.declared.fault.Key.{Key}
use Rattle.bank_config.specs.declared.fault.ConfigFault.TheVariants.{WrongKind, OutOfRange}
use Rattle.signal_base.specs.declared.limits.TheConstants.{MOST_COST}
use Rattle.bank_config.specs.declared.limits.TheConstants.{COSTS, LONGEST_FILE}
use Rattle.bank_config.specs.Checked.{Checked, ◌>>=◌}

-- the entries of an array
abbrev pub entries_of : Items → List Data
entries_of no_items = []
entries_of (item d ds) = d ∷ entries_of ds

-- a value of the right kind
abbrev pub of_kind : {A : Type 0} → Key → Option A → Checked A
of_kind key found = ok_or found (WrongKind key)

abbrev pub text_in : Key → Data → Checked (List ℕ)
text_in key value = of_kind key (as_str value)

abbrev pub list_in : Key → Data → Checked (List Data)
list_in key value = of_kind key (option_map entries_of (as_array value))

-- the number, where it is one of those from the least to the most
abbrev pub within : Key → ℕ → ℕ → ℤ → Checked ℕ
within key least most (pos n) = if nat_le least n && nat_le n most then Ok n else Err (OutOfRange key)
within key least most (negsuc n) = Err (OutOfRange key)

abbrev pub number_in : Key → ℕ → ℕ → Data → Checked ℕ
number_in key least most value = of_kind key (as_integer value) >>= within key least most

-- the station of this name
abbrev pub station_named : List ℕ → Option Station
station_named name =
    if bytes_eq name (station_name Dcf77) then Some Dcf77
    else if bytes_eq name (station_name Msf) then Some Msf
    else if bytes_eq name (station_name Wwvb) then Some Wwvb
    else if bytes_eq name (station_name Jjy) then Some Jjy
    else None

abbrev pub station_in : Key → Data → Checked Station
station_in key value = text_in key value >>= (λ name. ok_or (station_named name) (OutOfRange key))

abbrev pub hyphen : ℕ
hyphen = 45

abbrev pub underscore : ℕ
underscore = 95

-- `a` to `z`, `0` to `9`, `_` and `-`
abbrev pub is_name_byte : ℕ → Bool
is_name_byte b = (nat_le 97 b && nat_le b 122) || (nat_le 48 b && nat_le b 57) || b == underscore || b == hyphen

-- a receiver's name: 1 to 32 such bytes
abbrev pub is_name : List ℕ → Bool
is_name text = nat_le 1 (length text) && nat_le (length text) LONGEST_NAME && list_all is_name_byte text

-- the name of a log's file: 1 to 200 bytes, the first not `-`
abbrev pub is_file : List ℕ → Bool
is_file text = nat_le 1 (length text) && nat_le (length text) LONGEST_FILE && not (slice_index text 0 == hyphen)

abbrev pub is_table : Data → Bool
is_table value = is_some (as_table value)

abbrev pub is_number : Data → Bool
is_number value = is_some (as_integer value)

-- the entries, if there are fit ones only
abbrev pub all_of_kind : Key → (List Data → Bool) → List Data → Checked (List Data)
all_of_kind key fits entries = if fits entries then Ok entries else Err (WrongKind key)

-- each of the values in turn, the first of which has this number; the first fault decides
abbrev pub each : {A : Type 0} → (ℕ → Data → Checked A) → ℕ → List Data → Checked (List A)
each read number [] = Ok []
each read number (d ∷ ds) = read number d >>= (λ x. each read (number + 1) ds >>= (λ xs. Ok (x ∷ xs)))

-- exactly 101 whole numbers, each 0 to 200
abbrev pub costs_in : Key → Data → Checked (List ℕ)
costs_in key value =
    list_in key value
    >>= all_of_kind key (λ entries. length entries == COSTS && list_all is_number entries)
    >>= each (λ _. number_in key 0 MOST_COST) 0
