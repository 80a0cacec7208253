-- What the checks of a list come to, once the code has judged its values.
use Rattle.std.proofs.Common.{ℕ, ◌≡◌, ◌≢◌, ◌<◌, ◌≤◌, ◌==◌, ◌&&◌, nat_le, Bool, true, false, List, length, map, Option, Ok, Err, refl, arith, eq-eqb, le-leb}
use Rattle.std.proofs.lemmas.Bool.{lt-leb, eqb-true, eqb-false, ne_eqb}
use Rattle.std.proofs.lemmas.List.{length-map}
use Rattle.std.proofs.lemmas.List.Folds.{list_all-map}
use Rattle.std.specs.List.{list_all}
use Rattle.toml.specs.declared.value.Value.{Value}
use Rattle.toml.specs.Data.{Data}
use Rattle.toml.specs.View.{view}
use Rattle.bank_config.specs.declared.fault.Key.{Key}
use Rattle.bank_config.specs.declared.fault.Key.TheVariants.{Receiver}
use Rattle.bank_config.specs.declared.fault.ConfigFault.TheVariants.{WrongKind, OutOfRange}
use Rattle.signal_base.specs.declared.limits.TheConstants.{MOST_COST, MOST_RECEIVERS}
use Rattle.bank_config.specs.declared.limits.TheConstants.{COSTS}
use Rattle.bank_config.specs.declared.places.Place.TheVariants.{Top}
use Rattle.bank_config.specs.Checked.{Checked, ◌>>=◌, in_range}
use Rattle.bank_config.specs.Configuration.{all_known, receiver_known, table_known}
use Rattle.bank_config.specs.Places.{knows_all}
use Rattle.bank_config.specs.Values.{all_of_kind, each, is_number, is_table, number_in}

-- 1 to 8
abbrev pub few : ℕ → Bool
few n = nat_le 1 n && nat_le n MOST_RECEIVERS

-- the checks of the receivers' list
abbrev pub tables_of : Checked (List Data) → Checked (List Data)
tables_of listed = listed >>= all_of_kind Receiver (list_all is_table) >>= in_range Receiver (λ entries. few (length entries))

module _ (listed : Checked (List Data)) (values : List Value) (is : listed ≡ Ok (map view values)) where
  pub tables_of-other_kind : list_all (λ v. is_table (view v)) values ≡ false → tables_of listed ≡ Err (WrongKind Receiver)
  tables_of-other_kind other = rw (is, list_all-map is_table view values, other) refl

  pub tables_of-out_of_range : list_all (λ v. is_table (view v)) values ≡ true → few (length values) ≡ false → tables_of listed ≡ Err (OutOfRange Receiver)
  tables_of-out_of_range tables other = rw (is, list_all-map is_table view values, tables, length-map values view, other) refl

  pub tables_of-fine : list_all (λ v. is_table (view v)) values ≡ true → few (length values) ≡ true → tables_of listed ≡ Ok (map view values)
  tables_of-fine tables fine = rw (is, list_all-map is_table view values, tables, length-map values view, fine) refl

pub few-zero : (n : ℕ) → (n == 0) ≡ true → few n ≡ false
few-zero n none = rw (eqb-true n 0 none) refl

pub few-many : (n : ℕ) → MOST_RECEIVERS < n → few n ≡ false
few-many n many = rw (le-leb 1 n (omega arith), lt-leb n MOST_RECEIVERS many) refl

pub few-fine : (n : ℕ) → (n == 0) ≡ false → n ≤ MOST_RECEIVERS → few n ≡ true
few-fine n some most =
    let other : n ≢ 0 = eqb-false n 0 some in
    rw (le-leb 1 n (omega arith), le-leb n MOST_RECEIVERS most) refl

-- the checks of a list of costs
abbrev pub costs_of : Key → Checked (List Data) → Checked (List ℕ)
costs_of key listed =
    listed >>= all_of_kind key (λ entries. length entries == COSTS && list_all is_number entries) >>= each (λ _. number_in key 0 MOST_COST) 0

module _ (key : Key) (listed : Checked (List Data)) (values : List Value) (is : listed ≡ Ok (map view values)) where
  pub costs_of-other_length : length values ≢ COSTS → costs_of key listed ≡ Err (WrongKind key)
  costs_of-other_length other = rw (is, length-map values view, ne_eqb (length values) COSTS other) refl

  pub costs_of-other_kind : length values ≡ COSTS → list_all (λ v. is_number (view v)) values ≡ false → costs_of key listed ≡ Err (WrongKind key)
  costs_of-other_kind long other = rw (is, length-map values view, eq-eqb (length values) COSTS long, list_all-map is_number view values, other) refl

  pub costs_of-fine : length values ≡ COSTS → list_all (λ v. is_number (view v)) values ≡ true → costs_of key listed ≡ each (λ _. number_in key 0 MOST_COST) 0 (map view values)
  costs_of-fine long fine = rw (is, length-map values view, eq-eqb (length values) COSTS long, list_all-map is_number view values, fine) refl

-- the three places one after the other
module _ (config : Data) (tables : List Value) where
  pub all_known-not_top : knows_all Top config ≡ false → false ≡ all_known config (map view tables)
  all_known-not_top other = rw other refl

  pub all_known-not_receivers : knows_all Top config ≡ true → list_all (λ t. receiver_known (view t)) tables ≡ false → false ≡ all_known config (map view tables)
  all_known-not_receivers top other = rw (top, list_all-map receiver_known view tables, other) refl

  pub all_known-by_table : knows_all Top config ≡ true → list_all (λ t. receiver_known (view t)) tables ≡ true → table_known config ≡ all_known config (map view tables)
  all_known-by_table top receivers = rw (top, list_all-map receiver_known view tables, receivers) refl
