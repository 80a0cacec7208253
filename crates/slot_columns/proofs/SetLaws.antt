-- What a set costs is what stands in a row at its index.
use Rattle.std.proofs.Common.{◌≡◌, ℕ, zero, suc, ◌*◌, ◌/◌, ◌%◌, ◌^◌, ◌<◌, ◌≤◌, Bool, true, false, ◌==◌, bit_or, if◌then◌else◌, List, [], length, map, filter, get_or, unwrap_or, refl, sym, ap, ◌∙◌, arith}
use Rattle.std.proofs.lemmas.Bool.{ne_eqb}
use Rattle.std.proofs.lemmas.Nat.{or_lt, pow_below}
use Rattle.std.proofs.lemmas.List.{get_or-map, length-map}
use Rattle.signal_base.specs.declared.station.Station.{Station}
use Rattle.signal_base.specs.declared.station.Station.TheVariants.{Dcf77, Msf, Wwvb, Jjy}
use Rattle.signal_base.specs.Mask.{has_bit}
use Rattle.signal_base.specs.Waveform.{symbol_count}
use Rattle.definitions.specs.codes.Vocabulary.{unscored}
use Rattle.definitions.specs.heard.Costs.{least, set_cost, symbols_of}
use Rattle.definitions.proofs.CostLaws.{set_cost_same}
use Rattle.symbol_cost.specs.Grid.{HasCosts, cost_at}
use Rattle.symbol_cost.specs.declared.limits.TheConstants.{RECEIVER_COST}
use Rattle.signal_base.specs.declared.limits.TheConstants.{MOST_RECEIVERS, MOST_SECONDS}
use Rattle.slot_columns.specs.declared.limits.TheConstants.{SETS}
use Rattle.slot_columns.specs.Parts.{entry}
use Rattle.slot_columns.specs.Rows.{AreRows, AreSlotRows, IsBounded, IsRow, by_symbol, grid_of, index_of}

-- tests that agree on the symbols choose the same of them
chosen : (station : Station) (p q : ℕ → Bool) → p 0 ≡ q 0 → p 1 ≡ q 1 → p 2 ≡ q 2 → p 3 ≡ q 3 → p 4 ≡ q 4
    → filter p (symbols_of station) ≡ filter q (symbols_of station)
chosen Dcf77 p q a b c d e = rw (a, b, c) refl
chosen Msf p q a b c d e = rw (a, b, c, d, e) refl
chosen Wwvb p q a b c d e = rw (a, b, c) refl
chosen Jjy p q a b c d e = rw (a, b, c) refl

-- the five lowest bits
low_bit : (set x : ℕ) → (set % 32) / 2 ^ x % 2 ≡ set / 2 ^ x % 2 → has_bit (set % 32) x ≡ has_bit set x
low_bit set x same = ap (λ b. b == 1) same

scored : (station : Station) (costs : ℕ → ℕ) (set : ℕ) → (set == unscored) ≡ false → set_cost station costs (set % 32) ≡ set_cost station costs set
scored station costs set is =
    let other : (set % 32 == 255) ≡ false = ne_eqb (set % 32) 255 (λ e. omega (arith, e)) in
    let same = chosen station (has_bit (set % 32)) (has_bit set) (low_bit set 0 (omega arith)) (low_bit set 1 (omega arith)) (low_bit set 2 (omega arith))
    (low_bit set 3 (omega arith)) (low_bit set 4 (omega arith)) in
    rw (other, is) (ap (λ xs. unwrap_or (least (map costs xs)) 0) same)

pub none_chosen : (station : Station) (costs : ℕ → ℕ) → set_cost station costs 0 ≡ 0
none_chosen Dcf77 costs = refl
none_chosen Msf costs = refl
none_chosen Wwvb costs = refl
none_chosen Jjy costs = refl

-- the set at the index of a set costs the same
pub indexed : (station : Station) (costs : ℕ → ℕ) (set : ℕ) → set_cost station costs (index_of set) ≡ set_cost station costs set
indexed station costs set = by_test (set == unscored) refl
  where
    index : (t : Bool) → (set == unscored) ≡ t → index_of set ≡ (if t then 0 else set % 32)
    index t e = ap (λ (b : Bool). if b then 0 else set % 32) e

    by_test : (t : Bool) → (set == unscored) ≡ t → set_cost station costs (index_of set) ≡ set_cost station costs set
    by_test true e =
        ap (set_cost station costs) (index true e) ∙ none_chosen station costs
        ∙ sym (ap (λ (b : Bool). if b then 0 else unwrap_or (least (map costs (filter (has_bit set) (symbols_of station)))) 0) e)
    by_test false e = ap (set_cost station costs) (index false e) ∙ scored station costs set e

pub index_bound : (set : ℕ) → index_of set < 32
index_bound set = by_test (set == unscored)
  where
    by_test : (t : Bool) → (if t then 0 else set % 32) < 32
    by_test true = omega arith
    by_test false = omega arith

-- an index is its own
pub index_at : (n : ℕ) → n < 32 → index_of n ≡ n
index_at n small =
    let scored : (n == 255) ≡ false = ne_eqb n 255 (λ e. omega (arith, e, small)) in
    ap (λ (t : Bool). if t then 0 else n % 32) scored ∙ omega (arith, small)

-- and two of them together are one
pub or_index : (a b : ℕ) → a < 32 → b < 32 → bit_or a b < 32
or_index a b one other = or_lt 5 a b one other

-- a set of one symbol costs what the symbol costs
pub only_costs : (station : Station) (costs : ℕ → ℕ) (x : ℕ) → x < symbol_count station → set_cost station costs (2 ^ x) ≡ costs x
only_costs Dcf77 costs zero within = refl
only_costs Dcf77 costs (suc zero) within = refl
only_costs Dcf77 costs (suc (suc zero)) within = refl
only_costs Dcf77 costs (suc (suc (suc x))) within = absurd (omega arith)
only_costs Msf costs zero within = refl
only_costs Msf costs (suc zero) within = refl
only_costs Msf costs (suc (suc zero)) within = refl
only_costs Msf costs (suc (suc (suc zero))) within = refl
only_costs Msf costs (suc (suc (suc (suc zero)))) within = refl
only_costs Msf costs (suc (suc (suc (suc (suc x))))) within = absurd (omega arith)
only_costs Wwvb costs zero within = refl
only_costs Wwvb costs (suc zero) within = refl
only_costs Wwvb costs (suc (suc zero)) within = refl
only_costs Wwvb costs (suc (suc (suc x))) within = absurd (omega arith)
only_costs Jjy costs zero within = refl
only_costs Jjy costs (suc zero) within = refl
only_costs Jjy costs (suc (suc zero)) within = refl
only_costs Jjy costs (suc (suc (suc x))) within = absurd (omega arith)

symbol_in_row : (row : List ℕ) (x : ℕ) → x < 5 → get_or (by_symbol row) x 0 ≡ get_or row (2 ^ x) 0
symbol_in_row row zero within = refl
symbol_in_row row (suc zero) within = refl
symbol_in_row row (suc (suc zero)) within = refl
symbol_in_row row (suc (suc (suc zero))) within = refl
symbol_in_row row (suc (suc (suc (suc zero)))) within = refl
symbol_in_row row (suc (suc (suc (suc (suc x))))) within = absurd (omega arith)

-- a symbol's cost by the rows
pub symbol_entry : (rows : List (List ℕ)) (k x : ℕ) → k < length rows → x < 5 → cost_at (map by_symbol rows) k x ≡ entry rows k (2 ^ x)
symbol_entry rows k x within few =
    ap (λ (row : List ℕ). get_or row x 0) (get_or-map by_symbol rows k [] [] within) ∙ symbol_in_row (get_or rows k []) x few

pub few_symbols : (station : Station) → symbol_count station ≤ 5
few_symbols Dcf77 = omega arith
few_symbols Msf = omega arith
few_symbols Wwvb = omega arith
few_symbols Jjy = omega arith

-- Rows of what sets cost, by costs of symbols that so many receivers make.
module _ (station : Station) (receivers : ℕ) (rows : List (List ℕ)) (costs : ℕ → ℕ → ℕ)
    (is : (k set : ℕ) → k < length rows → set < SETS → entry rows k set ≡ set_cost station (costs k) set) where
  -- the rows tell what each symbol costs
  symbol_costs : (k x : ℕ) → k < length rows → x < symbol_count station → cost_at (map by_symbol rows) k x ≡ costs k x
  symbol_costs k x within symbol =
      let few : x < 5 = omega (arith, few_symbols station) in
      symbol_entry rows k x within few ∙ is k (2 ^ x) within (pow_below x 5 few) ∙ only_costs station (costs k) x symbol

  -- and, by them, what each set costs
  pub own_costs : AreRows rows (grid_of station receivers rows)
  own_costs = λ k set within small.
      is k set within small ∙ set_cost_same station (costs k) (cost_at (map by_symbol rows) k) set (λ x symbol. sym (symbol_costs k x within symbol))

  pub same_costs : (n : ℕ) → length rows ≡ n → HasCosts (grid_of station receivers rows) station n costs
  same_costs n count = record {
    of_station = refl;
    slots = length-map rows by_symbol ∙ count;
    each = λ k x within symbol. symbol_costs k x (omega (arith, within)) symbol;
  }

  pub own_bound : receivers ≤ MOST_RECEIVERS → length rows ≤ MOST_SECONDS → ((k set : ℕ) → k < length rows → set < SETS → entry rows k set ≤ receivers * RECEIVER_COST)
      → IsBounded (grid_of station receivers rows)
  own_bound few short small = record {
    few = few;
    short = omega (arith, length-map rows by_symbol);
    small = λ k set lt.
        let within : k < length rows = omega (arith, lt, length-map rows by_symbol) in
        omega (
          arith,
          small k (index_of set) within (index_bound set),
          own_costs k (index_of set) within (index_bound set),
          indexed station (cost_at (map by_symbol rows) k) set,
        );
  }

-- each of a grid's own rows
pub own_row : (station : Station) (receivers : ℕ) (rows : List (List ℕ)) → AreSlotRows station receivers rows
    → (k : ℕ) → k < length rows → IsRow (get_or rows k []) (grid_of station receivers rows) k
own_row station receivers rows are k within = record {
  each = λ set small. are.each k set within small;
  small = λ set small.
      let lt : k < length (grid_of station receivers rows).rows = omega (arith, length-map rows by_symbol) in
      omega (arith, are.each k set within small, are.bounded.small k set lt, are.bounded.few);
}
