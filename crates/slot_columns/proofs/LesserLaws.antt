-- The lesser of what two parts cost, second by second.
use Rattle.std.proofs.Common.{◌≡◌, ◌⊎◌, ℕ, ◌+◌, ◌*◌, ◌<◌, ◌≤◌, inl, inr, Bool, true, false, nat_lt, if◌then◌else◌, List, map, min, get_or, refl, sym, ap, ◌∙◌, arith}
use Rattle.std.proofs.Math.Nat.{min-eq_left, min-eq_right, min-le_left, min-le_right}
use Rattle.std.proofs.lemmas.Bool.{ltb-true, ltb-false}
use Rattle.std.proofs.lemmas.List.FromFn.{get_or-map-range_with_len}
use Rattle.std.specs.List.{range_with_len}
use Rattle.definitions.proofs.CostLaws.{sum_below_same}
use Rattle.symbol_cost.specs.Grid.{Grid}
use Rattle.slot_columns.specs.Parts.{IsLeastOfEither, IsOfEither, entry, most_cost}
use Rattle.slot_columns.specs.Rows.{index_of}
use Rattle.slot_columns.specs.Tables.{AreTables, column_cost, columns_cost, lesser_column, lesser_cost}
use Rattle.slot_columns.proofs.ColumnLaws.{layered, layered_bound}
use Rattle.slot_columns.proofs.SumLaws.{sum_of_less}

-- The cheaper of two sets in each second, by what a set costs there.
module _ (one other : List ℕ) (cost : ℕ → ℕ → ℕ) where
  abbrev cheaper : ℕ → ℕ
  cheaper s = if nat_lt (cost s (get_or one s 0)) (cost s (get_or other s 0)) then get_or one s 0 else get_or other s 0

  abbrev pub cheaper_part : List ℕ
  cheaper_part = map cheaper (range_with_len 0 60)

  cheaper_at : (s : ℕ) → s < 60 → get_or cheaper_part s 0 ≡ cheaper s
  cheaper_at s lt = get_or-map-range_with_len cheaper 0 60 s s 0 lt (omega arith)

  -- it is one of them, and costs the lesser of what they do
  by_test : (a b : ℕ) (of_set : ℕ → ℕ) (t : Bool) → nat_lt (of_set a) (of_set b) ≡ t
      → ((if t then a else b) ≡ a ⊎ (if t then a else b) ≡ b) × (min (of_set a) (of_set b) ≡ of_set (if t then a else b))
  by_test a b of_set true is = (inl refl, min-eq_left (omega (arith, ltb-true (of_set a) (of_set b) is)))
  by_test a b of_set false is = (inr refl, min-eq_right (omega (arith, ltb-false (of_set a) (of_set b) is)))

  pub cheaper_is_one : IsOfEither one other cheaper_part
  cheaper_is_one = λ s lt. elim ((by_test (get_or one s 0) (get_or other s 0) (cost s) (nat_lt (cost s (get_or one s 0)) (cost s (get_or other s 0))) refl).0) [
    | inl is ↦ inl (cheaper_at s lt ∙ is)
    | inr is ↦ inr (cheaper_at s lt ∙ is)
  ]

  pub cheaper_costs : (s : ℕ) → s < 60 → min (cost s (get_or one s 0)) (cost s (get_or other s 0)) ≡ cost s (get_or cheaper_part s 0)
  cheaper_costs s lt =
      (by_test (get_or one s 0) (get_or other s 0) (cost s) (nat_lt (cost s (get_or one s 0)) (cost s (get_or other s 0))) refl).1
      ∙ ap (cost s) (sym (cheaper_at s lt))

  -- no part costs less there that carries one of them in each second
  pub either_costs : (part : List ℕ) → IsOfEither one other part
      → (s : ℕ) → s < 60 → min (cost s (get_or one s 0)) (cost s (get_or other s 0)) ≤ cost s (get_or part s 0)
  either_costs part either s lt = elim (either s lt) [
    | inl is ↦ omega (arith, ap (cost s) is, min-le_left (cost s (get_or one s 0)) (cost s (get_or other s 0)))
    | inr is ↦ omega (arith, ap (cost s) is, min-le_right (cost s (get_or one s 0)) (cost s (get_or other s 0)))
  ]

module _ (grid : Grid) (first later : List (List ℕ)) (tables : AreTables grid first later) (p : ℕ) (second : p < 60) (one other : List ℕ) where
  -- what a set costs in second s of all minutes
  abbrev of_set : ℕ → ℕ → ℕ
  of_set s set = entry first (60 * p + s) (index_of set) + entry later (60 * p + s) (index_of set)

  abbrev cheapest : List ℕ
  cheapest = cheaper_part one other of_set

  costs_least : lesser_cost first later p one other ≡ columns_cost first later p cheapest cheapest
  costs_least =
      sum_below_same 60 (lesser_column first later p one other) (column_cost first later p cheapest cheapest) (λ s lt. cheaper_costs one other of_set s lt)

  no_less : (part : List ℕ) → IsOfEither one other part → lesser_cost first later p one other ≤ columns_cost first later p part part
  no_less part either =
      sum_of_less 60 (lesser_column first later p one other) (column_cost first later p part part) (λ s lt. either_costs one other of_set part either s lt)

  pub least_of_either : IsLeastOfEither grid p one other (lesser_cost first later p one other)
  least_of_either = record {
    floor = λ part either. omega (arith, no_less part either, layered grid first later tables p second part part);
    part = cheapest;
    of_either = cheaper_is_one one other of_set;
    costs = costs_least ∙ layered grid first later tables p second cheapest cheapest;
  }

  pub lesser_bound : lesser_cost first later p one other ≤ most_cost grid
  lesser_bound = omega (arith, costs_least, layered_bound grid first later tables p second cheapest cheapest)

-- the columns as they are passed on
pub passed_lesser : (first passed_first later passed_later : List (List ℕ)) (p : ℕ) (a b : List ℕ) → passed_first ≡ first → passed_later ≡ later
    → lesser_cost passed_first passed_later p a b ≡ lesser_cost first later p a b
passed_lesser first passed_first later passed_later p a b one two =
    ap (λ (t : List (List ℕ)). lesser_cost t passed_later p a b) one ∙ ap (λ (t : List (List ℕ)). lesser_cost first t p a b) two
