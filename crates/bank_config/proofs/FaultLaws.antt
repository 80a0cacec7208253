-- No text is refused for want of memory.
use Rattle.std.proofs.Common.{◌≡◌, ℕ, ◌+◌, ◌&&◌, nat_le, Bool, true, false, if◌then◌else◌, List, [], ◌∷◌, length, Option, Some, None, Result, Ok, Err, ok_or, codes}
use Rattle.std.specs.Str.{is_utf8}
use Rattle.std.specs.List.{list_all}
use Rattle.signal_base.specs.declared.limits.TheConstants.{GREATEST_COST, LEAST_SECOND_COST, LEAST_WEIGHT, MOST_DELAY, MOST_RECEIVERS, MOST_SECOND_COST, MOST_WEIGHT}
use Rattle.bank_config.specs.declared.limits.TheConstants.{DEFAULT_CEILING, DEFAULT_DELAY, DEFAULT_WEIGHT}
use Rattle.signal_base.specs.declared.station.Station.{Station}
use Rattle.signal_base.specs.Table.{difference_table}
use Rattle.toml.specs.Data.{Data, Members, get, table}
use Rattle.toml.specs.Parse.{parse_document}
use Rattle.bank_config.specs.declared.fault.Key.{Key}
use Rattle.bank_config.specs.declared.fault.Key.TheVariants as key
use Rattle.bank_config.specs.declared.fault.ConfigFault.{ConfigFault}
use Rattle.bank_config.specs.declared.fault.ConfigFault.TheVariants.{NotToml, Missing, WrongKind, OutOfRange, UnknownKey, NoMemory}
use Rattle.bank_config.specs.Checked.{Checked, ◌>>=◌, if_given, in_range, optional, required}
use Rattle.bank_config.specs.Values.{all_of_kind, costs_in, each, is_file, is_name, is_table, list_in, number_in, station_in, station_named, text_in, within}
use Rattle.bank_config.specs.Configuration.{PlainConfig, all_known, configuration_in, configuration_of, configuration_of_document, cost_table_in, file_at, name_at, number_at, receiver_in, second_at, tables_in}
use Rattle.std.specs.Prelude.{ℤ, pos, negsuc}

-- a fault that a text can have
abbrev pub IsOfText : ConfigFault → Type 0
IsOfText NoMemory = ⊥
IsOfText fault = Unit {0}

abbrev IsSafe : {A : Type 0} → Checked A → Type 0
IsSafe (Ok x) = Unit {0}
IsSafe (Err fault) = IsOfText fault

then_safe : {A B : Type 0} (c : Checked A) (next : A → Checked B) → IsSafe c → ((x : A) → IsSafe (next x)) → IsSafe (c >>= next)
then_safe (Ok x) next safe rest = rest x
then_safe (Err fault) next safe rest = safe

ok_or_safe : {A : Type 0} (found : Option A) (fault : ConfigFault) → IsOfText fault → IsSafe (ok_or found fault)
ok_or_safe None fault is = is
ok_or_safe (Some x) fault is = tt

if_safe : {A : Type 0} (b : Bool) (x y : Checked A) → IsSafe x → IsSafe y → IsSafe (if b then x else y)
if_safe true x y safe also = safe
if_safe false x y safe also = also

optional_safe : {A B : Type 0} (default : B) (read : A → Checked B) (found : Option A) → ((x : A) → IsSafe (read x)) → IsSafe (optional default read found)
optional_safe default read None safe = tt
optional_safe default read (Some x) safe = safe x

if_given_safe : {A B : Type 0} (read : A → Checked B) (found : Option A) → ((x : A) → IsSafe (read x)) → IsSafe (if_given read found)
if_given_safe read None safe = tt
if_given_safe read (Some x) safe = then_safe (read x) (λ y. Ok (Some y)) (safe x) (λ y. tt)

within_safe : (k : Key) (least most : ℕ) (n : ℤ) → IsSafe (within k least most n)
within_safe k least most (pos n) = if_safe (nat_le least n && nat_le n most) (Ok n) (Err (OutOfRange k)) tt tt
within_safe k least most (negsuc n) = tt

in_range_safe : {A : Type 0} (k : Key) (fits : A → Bool) (x : A) → IsSafe (in_range k fits x)
in_range_safe k fits x = if_safe (fits x) (Ok x) (Err (OutOfRange k)) tt tt

all_of_kind_safe : (k : Key) (fits : List Data → Bool) (xs : List Data) → IsSafe (all_of_kind k fits xs)
all_of_kind_safe k fits xs = if_safe (fits xs) (Ok xs) (Err (WrongKind k)) tt tt

each_safe : {A : Type 0} (read : ℕ → Data → Checked A) → ((n : ℕ) (d : Data) → IsSafe (read n d)) → (n : ℕ) (ds : List Data) → IsSafe (each read n ds)
each_safe read safe n [] = tt
each_safe read safe n (d ∷ ds) =
    then_safe (read n d) (λ x. each read (n + 1) ds >>= (λ xs. Ok (x ∷ xs))) (safe n d)
    (λ x. then_safe (each read (n + 1) ds) (λ xs. Ok (x ∷ xs)) (each_safe read safe (n + 1) ds) (λ xs. tt))

text_safe : (k : Key) (d : Data) → IsSafe (text_in k d)
text_safe k d = ok_or_safe _ (WrongKind k) tt

list_safe : (k : Key) (d : Data) → IsSafe (list_in k d)
list_safe k d = ok_or_safe _ (WrongKind k) tt

number_safe : (k : Key) (least most : ℕ) (d : Data) → IsSafe (number_in k least most d)
number_safe k least most d = then_safe _ (within k least most) (ok_or_safe _ (WrongKind k) tt) (within_safe k least most)

station_safe : (k : Key) (d : Data) → IsSafe (station_in k d)
station_safe k d = then_safe _ _ (text_safe k d) (λ name. ok_or_safe (station_named name) (OutOfRange k) tt)

costs_safe : (k : Key) (d : Data) → IsSafe (costs_in k d)
costs_safe k d = then_safe _ _ (then_safe _ _ (list_safe k d) (all_of_kind_safe k _)) (each_safe _ (λ n x. number_safe k _ _ x) 0)

text_at_safe : (k : Key) (found : Option Data) (fits : List ℕ → Bool) → IsSafe (required k found >>= text_in k >>= in_range k fits)
text_at_safe k found fits = then_safe _ _ (then_safe _ _ (ok_or_safe found (Missing k) tt) (text_safe k)) (in_range_safe k fits)

number_at_safe : (k : Key) (word : List ℕ) (least most default : ℕ) (d : Data) → IsSafe (number_at k word least most default d)
number_at_safe k word least most default d = optional_safe default (number_in k least most) (get word d) (number_safe k least most)

name_safe : (k : Key) (d : Data) → IsSafe (name_at k d)
name_safe k d = text_at_safe k (get (codes "name") d) is_name

file_safe : (k : Key) (d : Data) → IsSafe (file_at k d)
file_safe k d = text_at_safe k (get (codes "log") d) is_file

second_safe : (k : Key) (d : Data) → IsSafe (second_at k d)
second_safe k d =
    if_given_safe (number_in k LEAST_SECOND_COST MOST_SECOND_COST) (get (codes "second") d) (number_safe k LEAST_SECOND_COST MOST_SECOND_COST)

table_safe : (r : Option ℕ) (d : Data) → IsSafe (cost_table_in r d)
table_safe r d =
    if_safe (is_table d) _ (Err (WrongKind (key.CostTable r)))
    (then_safe (optional difference_table.low (costs_in (key.Low r)) (get (codes "low") d)) _
    (optional_safe difference_table.low (costs_in (key.Low r)) (get (codes "low") d) (costs_safe (key.Low r))) (λ low.
    then_safe (optional difference_table.high (costs_in (key.High r)) (get (codes "high") d)) _
    (optional_safe difference_table.high (costs_in (key.High r)) (get (codes "high") d) (costs_safe (key.High r))) (λ high.
    then_safe (second_at (key.Second r) d) _ (second_safe (key.Second r) d) (λ second. tt)))) tt

receiver_safe : (top : Station) (n : ℕ) (d : Data) → IsSafe (receiver_in top n d)
receiver_safe top n d =
    then_safe (name_at (key.Name n) d) _ (name_safe (key.Name n) d) (λ name.
    then_safe (file_at (key.File n) d) _ (file_safe (key.File n) d) (λ file.
    then_safe (number_at (key.Delay n) (codes "delay_ms") 0 MOST_DELAY DEFAULT_DELAY d) _ (number_at_safe (key.Delay n) (codes "delay_ms") 0 MOST_DELAY DEFAULT_DELAY d) (λ delay.
    then_safe (number_at (key.Weight n) (codes "weight") LEAST_WEIGHT MOST_WEIGHT DEFAULT_WEIGHT d) _
    (number_at_safe (key.Weight n) (codes "weight") LEAST_WEIGHT MOST_WEIGHT DEFAULT_WEIGHT d) (λ weight.
    then_safe (optional top (station_in (key.ReceiverStation n)) (get (codes "station") d)) _
    (optional_safe top (station_in (key.ReceiverStation n)) (get (codes "station") d) (station_safe (key.ReceiverStation n))) (λ station.
    then_safe (if_given (cost_table_in (Some n)) (get (codes "table") d)) _ (if_given_safe (cost_table_in (Some n)) (get (codes "table") d) (table_safe (Some n))) (λ own. tt))))))

tables_safe : (d : Data) → IsSafe (tables_in d)
tables_safe d =
    then_safe (list_in key.Receiver d >>= all_of_kind key.Receiver (list_all is_table)) (in_range key.Receiver (λ entries. nat_le 1 (length entries) && nat_le (length entries) MOST_RECEIVERS))
    (then_safe (list_in key.Receiver d) (all_of_kind key.Receiver (list_all is_table)) (list_safe key.Receiver d) (all_of_kind_safe key.Receiver (list_all is_table)))
    (in_range_safe key.Receiver (λ entries. nat_le 1 (length entries) && nat_le (length entries) MOST_RECEIVERS))

members_safe : (d : Data) → IsSafe (configuration_in d)
members_safe d =
    then_safe (required key.Station (get (codes "station") d) >>= station_in key.Station) _
    (then_safe (required key.Station (get (codes "station") d)) (station_in key.Station) (ok_or_safe (get (codes "station") d) (Missing key.Station) tt) (station_safe key.Station)) (λ station.
    then_safe (number_at key.Ceiling (codes "ceiling") 0 GREATEST_COST DEFAULT_CEILING d) _ (number_at_safe key.Ceiling (codes "ceiling") 0 GREATEST_COST DEFAULT_CEILING d) (λ ceiling.
    then_safe (required key.Receiver (get (codes "receiver") d) >>= tables_in) _
    (then_safe (required key.Receiver (get (codes "receiver") d)) tables_in (ok_or_safe (get (codes "receiver") d) (Missing key.Receiver) tt) tables_safe) (λ tables.
    then_safe (each (receiver_in station) 1 tables) _ (each_safe (receiver_in station) (receiver_safe station) 1 tables) (λ receivers.
    then_safe (optional difference_table (cost_table_in None) (get (codes "table") d)) _
    (optional_safe difference_table (cost_table_in None) (get (codes "table") d) (table_safe None)) (λ costs.
    if_safe (all_known d tables) (Ok (record { station = station; ceiling = ceiling; receivers = receivers; costs = costs })) (Err UnknownKey) tt tt)))))

document_safe : (found : Option Members) → IsSafe (configuration_of_document found)
document_safe None = tt
document_safe (Some members) = members_safe (table members)

-- whatever the bytes, no fault is want of memory
pub fault_of_text : (bytes : List ℕ) (fault : ConfigFault) → configuration_of bytes ≡ Err fault → IsOfText fault
fault_of_text bytes fault is = let safe = document_safe (if is_utf8 bytes then parse_document bytes else None) in rw is at safe
