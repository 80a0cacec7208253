-- The ranges that an accepted configuration keeps.
use Rattle.std.proofs.Common.{◌≡◌, ℕ, zero, suc, ◌+◌, ◌≤◌, ◌&&◌, ◌==◌, nat_le, Bool, true, false, if◌then◌else◌, List, [], ◌∷◌, length, Option, Some, None, Ok, Err, codes, refl, ap, subst, arith}
use Rattle.std.specs.Prelude.{ℤ, pos, negsuc, slice_index}
use Rattle.std.specs.Str.{is_utf8}
use Rattle.std.specs.List.{AllByRecursion, list_all}
use Rattle.std.specs.Option.{ForSome}
use Rattle.std.proofs.lemmas.Bool.{leb-true}
use Rattle.signal_base.specs.declared.limits.TheConstants.{GREATEST_COST, LEAST_SECOND_COST, LEAST_WEIGHT, MOST_COST, MOST_DELAY, MOST_RECEIVERS, MOST_SECOND_COST, MOST_WEIGHT}
use Rattle.signal_base.specs.declared.station.Station.{Station}
use Rattle.signal_base.specs.Limits.{IsCap, IsPriced, IsTuned}
use Rattle.signal_base.specs.Table.{difference_table}
use Rattle.signal_base.proofs.TableLaws.{priced}
use Rattle.toml.specs.Data.{Data, Members, as_integer, get, table}
use Rattle.toml.specs.Parse.{parse_document}
use Rattle.bank_config.specs.declared.limits.TheConstants.{COSTS, DEFAULT_CEILING, DEFAULT_DELAY, DEFAULT_WEIGHT}
use Rattle.bank_config.specs.declared.fault.Key.{Key}
use Rattle.bank_config.specs.declared.fault.Key.TheVariants as key
use Rattle.bank_config.specs.declared.fault.ConfigFault.{ConfigFault}
use Rattle.bank_config.specs.declared.fault.ConfigFault.TheVariants.{OutOfRange, UnknownKey, WrongKind}
use Rattle.bank_config.specs.Checked.{Checked, ◌>>=◌, if_given, in_range, optional, required}
use Rattle.bank_config.specs.Values.{all_of_kind, costs_in, each, is_number, is_table, list_in, number_in, of_kind, station_in, within}
use Rattle.bank_config.specs.InRange.{IsPlainInRange}
use Rattle.bank_config.specs.Configuration.{PlainConfig, PlainReceiver, all_known, configuration_in, configuration_of, configuration_of_document, cost_table_in, file_at, name_at, number_at, receiver_in, second_at, tables_in}

-- what a check finds is so
abbrev Makes : {A : Type 0} → (A → Type 0) → Checked A → Type 0
Makes P (Ok x) = P x
Makes P (Err fault) = Unit {0}

abbrev Anything : {A : Type 0} → A → Type 0
Anything x = Unit {0}

then_makes : {A B : Type 0} (P : A → Type 0) (Q : B → Type 0) (c : Checked A) (next : A → Checked B) → Makes P c → ((x : A) → P x → Makes Q (next x)) → Makes Q (c >>= next)
then_makes P Q (Ok x) next made rest = rest x made
then_makes P Q (Err fault) next made rest = tt

anything : {A : Type 0} (c : Checked A) → Makes Anything c
anything (Ok x) = tt
anything (Err fault) = tt

if_makes : {A : Type 0} (P : A → Type 0) (b : Bool) (x : A) (fault : ConfigFault) → (b ≡ true → P x) → Makes P (if b then Ok x else Err fault)
if_makes P true x fault h = h refl
if_makes P false x fault h = tt

if_known : {A : Type 0} (P : A → Type 0) (b : Bool) (c : Checked A) (fault : ConfigFault) → Makes P c → Makes P (if b then c else Err fault)
if_known P true c fault made = made
if_known P false c fault made = tt

optional_makes : {A B : Type 0} (P : B → Type 0) (default : B) (read : A → Checked B) (found : Option A) → P default → ((x : A) → Makes P (read x)) → Makes P (optional default read found)
optional_makes P default read None given made = given
optional_makes P default read (Some x) given made = made x

-- what is read, if something is there, is so
if_given_makes : {A B : Type 0} (P : B → Type 0) (read : A → Checked B) (found : Option A) → ((x : A) → Makes P (read x)) → Makes (λ y. ForSome y P) (if_given read found)
if_given_makes P read None made = λ y e. absurd cc
if_given_makes P read (Some x) made = then_makes P (λ y. ForSome y P) (read x) (λ y. Ok (Some y)) (made x) (λ y is z e. let same : y ≡ z = cc in subst P same is)

both : (a b : Bool) → (a && b) ≡ true → (a ≡ true) × (b ≡ true)
both true b e = (refl, e)
both false b e = absurd cc

-- a number from the least to the most
abbrev Lies : ℕ → ℕ → ℕ → Type 0
Lies least most n = (least ≤ n) × (n ≤ most)

tested : (least most n : ℕ) → (nat_le least n && nat_le n most) ≡ true → Lies least most n
tested least most n e =
    let parts = both (nat_le least n) (nat_le n most) e in
    (leb-true least n parts.0, leb-true n most parts.1)

within_makes : (k : Key) (least most : ℕ) (z : ℤ) → Makes (Lies least most) (within k least most z)
within_makes k least most (pos n) = if_makes (Lies least most) (nat_le least n && nat_le n most) n (OutOfRange k) (tested least most n)
within_makes k least most (negsuc n) = tt

number_makes : (k : Key) (least most : ℕ) (d : Data) → Makes (Lies least most) (number_in k least most d)
number_makes k least most d =
    then_makes Anything (Lies least most) (of_kind k (as_integer d)) (within k least most) (anything (of_kind k (as_integer d))) (λ z any. within_makes k least most z)

number_at_makes : (k : Key) (word : List ℕ) (least most default : ℕ) (d : Data) → Lies least most default → Makes (Lies least most) (number_at k word least most default d)
number_at_makes k word least most default d given =
    optional_makes (Lies least most) default (number_in k least most) (get word d) given (number_makes k least most)

-- each of some values
abbrev AreMade : {A : Type 0} → (A → Type 0) → List Data → List A → Type 0
AreMade P ds xs = AllByRecursion P xs × (length xs ≡ length ds)

each_makes : {A : Type 0} (P : A → Type 0) (read : ℕ → Data → Checked A) → ((n : ℕ) (d : Data) → Makes P (read n d)) → (n : ℕ) (ds : List Data) → Makes (AreMade P ds) (each read n ds)
each_makes P read made n [] = (tt, refl)
each_makes P read made n (d ∷ ds) =
    then_makes P (AreMade P (d ∷ ds)) (read n d) (λ x. each read (n + 1) ds >>= (λ xs. Ok (x ∷ xs))) (made n d) (λ x is.
    then_makes (AreMade P ds) (AreMade P (d ∷ ds)) (each read (n + 1) ds) (λ xs. Ok (x ∷ xs)) (each_makes P read made (n + 1) ds) (λ xs are.
    ((is, are.0), ap suc are.1)))

abbrev AreFew : List Data → Type 0
AreFew ts = (1 ≤ length ts) × (length ts ≤ MOST_RECEIVERS)

tables_makes : (d : Data) → Makes AreFew (tables_in d)
tables_makes d =
    then_makes Anything AreFew (list_in key.Receiver d >>= all_of_kind key.Receiver (list_all is_table))
    (in_range key.Receiver (λ entries. nat_le 1 (length entries) && nat_le (length entries) MOST_RECEIVERS))
    (anything (list_in key.Receiver d >>= all_of_kind key.Receiver (list_all is_table)))
    (λ ts any. if_makes AreFew (nat_le 1 (length ts) && nat_le (length ts) MOST_RECEIVERS) ts (OutOfRange key.Receiver) (tested 1 MOST_RECEIVERS (length ts)))

-- the entries of a cost table
abbrev AreLow : List ℕ → Type 0
AreLow ns = (n : ℕ) → slice_index ns n ≤ MOST_COST

low_by_all : (ns : List ℕ) → AllByRecursion (Lies 0 MOST_COST) ns → AreLow ns
low_by_all [] all n = omega arith
low_by_all (m ∷ ms) all zero = all.0.1
low_by_all (m ∷ ms) all (suc n) = low_by_all ms all.1 n

weaker_costs : (ds : List Data) (ns : List ℕ) → AreMade (Lies 0 MOST_COST) ds ns → AreLow ns
weaker_costs ds ns made = low_by_all ns made.0

makes_weaker : {A : Type 0} (P Q : A → Type 0) → ((x : A) → P x → Q x) → (c : Checked A) → Makes P c → Makes Q c
makes_weaker P Q to (Ok x) made = to x made
makes_weaker P Q to (Err fault) made = tt

abbrev costs_listed : Key → Data → Checked (List Data)
costs_listed k d = list_in k d >>= all_of_kind k (λ entries. length entries == COSTS && list_all is_number entries)

costs_makes : (k : Key) (d : Data) → Makes AreLow (costs_in k d)
costs_makes k d =
    then_makes Anything AreLow (costs_listed k d) (each (λ _. number_in k 0 MOST_COST) 0) (anything (costs_listed k d)) (λ ds any.
    makes_weaker (AreMade (Lies 0 MOST_COST) ds) AreLow (weaker_costs ds) (each (λ _. number_in k 0 MOST_COST) 0 ds)
    (each_makes (Lies 0 MOST_COST) (λ _. number_in k 0 MOST_COST) (λ n x. number_makes k 0 MOST_COST x) 0 ds))

second_makes : (k : Key) (d : Data) → Makes (λ second. ForSome second IsCap) (second_at k d)
second_makes k d =
    if_given_makes IsCap (number_in k LEAST_SECOND_COST MOST_SECOND_COST) (get (codes "second") d) (λ value.
    makes_weaker (Lies LEAST_SECOND_COST MOST_SECOND_COST) IsCap (λ n lies. record { some = lies.0; few = lies.1 }) (number_in k LEAST_SECOND_COST MOST_SECOND_COST value)
    (number_makes k LEAST_SECOND_COST MOST_SECOND_COST value))

table_makes : (r : Option ℕ) (d : Data) → Makes IsPriced (cost_table_in r d)
table_makes r d =
    if_known IsPriced (is_table d) _ (WrongKind (key.CostTable r))
    (then_makes AreLow IsPriced (optional difference_table.low (costs_in (key.Low r)) (get (codes "low") d)) _
    (optional_makes AreLow difference_table.low (costs_in (key.Low r)) (get (codes "low") d) priced.low (costs_makes (key.Low r))) (λ low are.
    then_makes AreLow IsPriced (optional difference_table.high (costs_in (key.High r)) (get (codes "high") d)) _
    (optional_makes AreLow difference_table.high (costs_in (key.High r)) (get (codes "high") d) priced.high (costs_makes (key.High r))) (λ high are_too.
    then_makes (λ second. ForSome second IsCap) IsPriced (second_at (key.Second r) d) _ (second_makes (key.Second r) d) (λ second cap.
    record { low = are; high = are_too; second = cap }))))

abbrev IsTunedReceiver : PlainReceiver → Type 0
IsTunedReceiver r = IsTuned r.tuning

receiver_makes : (top : Station) (n : ℕ) (d : Data) → Makes IsTunedReceiver (receiver_in top n d)
receiver_makes top n d =
    then_makes Anything IsTunedReceiver (name_at (key.Name n) d) _ (anything (name_at (key.Name n) d)) (λ name a.
    then_makes Anything IsTunedReceiver (file_at (key.File n) d) _ (anything (file_at (key.File n) d)) (λ file b.
    then_makes (Lies 0 MOST_DELAY) IsTunedReceiver (number_at (key.Delay n) (codes "delay_ms") 0 MOST_DELAY DEFAULT_DELAY d) _
    (number_at_makes (key.Delay n) (codes "delay_ms") 0 MOST_DELAY DEFAULT_DELAY d (omega arith, omega arith)) (λ delay lies.
    then_makes (Lies LEAST_WEIGHT MOST_WEIGHT) IsTunedReceiver (number_at (key.Weight n) (codes "weight") LEAST_WEIGHT MOST_WEIGHT DEFAULT_WEIGHT d) _
    (number_at_makes (key.Weight n) (codes "weight") LEAST_WEIGHT MOST_WEIGHT DEFAULT_WEIGHT d (omega arith, omega arith)) (λ weight does.
    then_makes Anything IsTunedReceiver (optional top (station_in (key.ReceiverStation n)) (get (codes "station") d)) _
    (anything (optional top (station_in (key.ReceiverStation n)) (get (codes "station") d))) (λ station c.
    then_makes (λ own. ForSome own IsPriced) IsTunedReceiver (if_given (cost_table_in (Some n)) (get (codes "table") d)) _
    (if_given_makes IsPriced (cost_table_in (Some n)) (get (codes "table") d) (table_makes (Some n))) (λ own priced.
    record { delay = lies.1; some_weight = does.0; weight = does.1; priced = priced }))))))

members_make : (d : Data) → Makes IsPlainInRange (configuration_in d)
members_make d =
    then_makes Anything IsPlainInRange (required key.Station (get (codes "station") d) >>= station_in key.Station) _
    (anything (required key.Station (get (codes "station") d) >>= station_in key.Station)) (λ station a.
    then_makes (Lies 0 GREATEST_COST) IsPlainInRange (number_at key.Ceiling (codes "ceiling") 0 GREATEST_COST DEFAULT_CEILING d) _
    (number_at_makes key.Ceiling (codes "ceiling") 0 GREATEST_COST DEFAULT_CEILING d (omega arith, omega arith)) (λ ceiling lies.
    then_makes AreFew IsPlainInRange (required key.Receiver (get (codes "receiver") d) >>= tables_in) _
    (then_makes Anything AreFew (required key.Receiver (get (codes "receiver") d)) tables_in (anything (required key.Receiver (get (codes "receiver") d))) (λ t any. tables_makes t)) (λ tables few.
    then_makes (AreMade IsTunedReceiver tables) IsPlainInRange (each (receiver_in station) 1 tables) _ (each_makes IsTunedReceiver (receiver_in station) (receiver_makes station) 1 tables) (λ receivers are.
    then_makes IsPriced IsPlainInRange (optional difference_table (cost_table_in None) (get (codes "table") d)) _
    (optional_makes IsPriced difference_table (cost_table_in None) (get (codes "table") d) priced (table_makes None)) (λ costs fine.
    if_known IsPlainInRange (all_known d tables) (Ok (record { station = station; ceiling = ceiling; receivers = receivers; costs = costs })) UnknownKey
    (record {
      ceiling = lies.1;
      some_receiver = omega (arith, few.0, are.1);
      few_receivers = omega (arith, few.1, are.1);
      tuned = are.0;
      priced = fine;
    }))))))

document_makes : (found : Option Members) → Makes IsPlainInRange (configuration_of_document found)
document_makes None = tt
document_makes (Some members) = members_make (table members)

-- whatever the bytes, what is accepted is in its ranges
pub plain_in_range : (bytes : List ℕ) (config : PlainConfig) → configuration_of bytes ≡ Ok config → IsPlainInRange config
plain_in_range bytes config is = subst (Makes IsPlainInRange) is (document_makes (if is_utf8 bytes then parse_document bytes else None))
