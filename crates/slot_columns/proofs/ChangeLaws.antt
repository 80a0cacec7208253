-- What walks cost at the least that change from one part to another, where each has in each second what one of two others does.
use Rattle.std.proofs.Common.{◌≡◌, ℕ, ◌+◌, ◌-◌, ◌*◌, ◌<◌, ◌≤◌, ◌/◌, inl, List, min, length, get_or, refl, sym, ap, ◌∙◌, arith}
use Rattle.std.proofs.Math.Nat.{min-le_left}
use Rattle.definitions.specs.heard.Costs.{sum_below}
use Rattle.definitions.proofs.CostLaws.{sum_below_more, sum_below_same}
use Rattle.symbol_cost.specs.Grid.{Grid}
use Rattle.slot_columns.specs.Parts.{IsLeastOfChange, IsOfChange, IsOfEither, entry}
use Rattle.slot_columns.specs.Rows.{IsBounded, index_of}
use Rattle.slot_columns.specs.Tables.{AreTables, at_place, behind, in_all, in_front, in_first, in_later, lesser_in_change, lesser_of_change}
use Rattle.slot_columns.proofs.ColumnLaws.{column_at}
use Rattle.slot_columns.proofs.LesserLaws.{cheaper_costs, cheaper_is_one, cheaper_part, either_costs}
use Rattle.slot_columns.proofs.PlaceLaws.{at_index, place_free}
use Rattle.slot_columns.proofs.SplitLaws.{by_column, column, cost, small, sum_of_kinds}
use Rattle.slot_columns.proofs.SumLaws.{sum_after_first, sum_in_two, sum_of_fewer, sum_of_less, sum_of_none}

module _ (grid : Grid) (p s : ℕ) where
  -- what a set costs before a minute and from it on is all
  pub in_all_parts : (set b : ℕ) → b ≤ 21 → in_front grid p s set b + behind grid p s set b ≡ in_all grid p s set
  in_all_parts set b le =
      let f = λ (m : ℕ). at_place grid p set (60 * m + s) in
      let whole : b + (21 - b) ≡ 21 = omega arith in
      omega (arith, ap (λ n. sum_below n f) whole, sum_in_two b (21 - b) f)

  -- one minute more before it, and less from it on
  pub front_more : (set m : ℕ) → in_front grid p s set m + at_place grid p set (60 * m + s) ≡ in_front grid p s set (m + 1)
  front_more set m = sym (sum_below_more m (λ m. at_place grid p set (60 * m + s)))

  pub behind_less : (set m : ℕ) → m < 21 → behind grid p s set (m + 1) + at_place grid p set (60 * m + s) ≡ behind grid p s set m
  behind_less set m few = omega (arith, in_all_parts set m (omega arith), in_all_parts set (m + 1) (omega arith), front_more set m)

  -- so a turn over minutes goes on
  pub turn : (set m front late cost : ℕ) → m < 21 → front ≡ in_front grid p s set m → late ≡ behind grid p s set m → cost ≡ at_place grid p set (60 * m + s)
      → (front + cost ≡ in_front grid p s set (m + 1)) × (cost ≤ late) × (late - cost ≡ behind grid p s set (m + 1))
  turn set m front late cost few front_is late_is is =
      let more = front_more set m in
      let less = behind_less set m few in
      (omega (arith, front_is, is, more), omega (arith, late_is, is, less), omega (arith, late_is, is, less))

  pub lesser_is : (one other b f g v w : ℕ) → f ≡ in_front grid p s one b → g ≡ in_front grid p s other b → v ≡ behind grid p s one b → w ≡ behind grid p s other b
      → min f g + min v w ≡ lesser_in_change grid p s one other b
  lesser_is one other b f g v w f_is g_is v_is w_is =
      ap (λ x. min x g + min v w) f_is ∙ ap (λ x. min (in_front grid p s one b) x + min v w) g_is
      ∙ ap (λ x. min (in_front grid p s one b) (in_front grid p s other b) + min x w) v_is
      ∙ ap (λ x. min (in_front grid p s one b) (in_front grid p s other b) + min (behind grid p s one b) x) w_is

  -- the set without symbols
  pub lesser_free : (b : ℕ) → b ≤ 21 → lesser_in_change grid p s 0 0 b ≡ 0
  lesser_free b le =
      let front : in_front grid p s 0 b ≡ 0 = sum_of_none b (λ m. at_place grid p 0 (60 * m + s)) (λ m few. place_free grid p (60 * m + s)) in
      let late : behind grid p s 0 b ≡ 0 = sum_of_none (21 - b) (λ m. at_place grid p 0 (60 * (b + m) + s)) (λ m few. place_free grid p (60 * (b + m) + s)) in
      omega (arith, front, late, min-le_left (in_front grid p s 0 b) (in_front grid p s 0 b), min-le_left (behind grid p s 0 b) (behind grid p s 0 b))

-- what the tables have of a set is what it costs in all minutes
pub in_tables : (grid : Grid) (first later : List (List ℕ)) → AreTables grid first later → (p s set : ℕ) → p < 60 → s < 60
    → entry first (60 * p + s) (index_of set) + entry later (60 * p + s) (index_of set) ≡ in_all grid p s set
in_tables grid first later tables p s set second lt =
    let f = λ (m : ℕ). at_place grid p set (60 * m + s) in
    let here : at_place grid p set (60 * 0 + s) ≡ at_place grid p set s = ap (at_place grid p set) (omega arith) in
    let late = sum_below_same 20 (λ m. at_place grid p (index_of set) (60 * (m + 1) + s)) (λ m. at_place grid p set (60 * (m + 1) + s))
    (λ m few. at_index grid p set (60 * (m + 1) + s)) in
    omega (
      arith,
      column_at first (in_first grid) tables.in_first p s set second lt,
      column_at later (in_later grid) tables.in_later p s set second lt,
      at_index grid p set s,
      late,
      here,
      sum_after_first 20 f,
    )

-- what second s costs at the least
abbrev pub lesser_second : Grid → ℕ → List ℕ → List ℕ → ℕ → ℕ → ℕ
lesser_second grid p one other b s = lesser_in_change grid p s (get_or one s 0) (get_or other s 0) b

module _ (grid : Grid) (p : ℕ) (bounded : IsBounded grid) (second : p < 60) where
  -- what second s costs of a walk that changes
  abbrev of_change : List ℕ → List ℕ → ℕ → ℕ → ℕ
  of_change before after b s = in_front grid p s (get_or before s 0) b + behind grid p s (get_or after s 0) b

  of_column : (before after : List ℕ) (b s : ℕ) → b ≤ 21 → column grid p before after b s ≡ of_change before after b s
  of_column before after b s le =
      let f = λ (m : ℕ). at_place grid p (get_or before s 0) (60 * m + s) in
      let g = λ (m : ℕ). at_place grid p (get_or after s 0) (60 * m + s) in
      omega (arith, sum_of_kinds 21 b f g le, in_all_parts grid p s (get_or after s 0) b le)

  by_second : (before after : List ℕ) (b : ℕ) → b ≤ 21 → cost grid p before after b ≡ sum_below 60 (of_change before after b)
  by_second before after b le =
      by_column grid p before after bounded second b
      ∙ sum_below_same 60 (column grid p before after b) (of_change before after b) (λ s lt. of_column before after b s le)

  module _ (one other : List ℕ) where
    -- no walk costs less that changes at minute b
    pub no_less : (b : ℕ) (before after : List ℕ) → b ≤ 21 → IsOfEither one other before → IsOfEither one other after
        → lesser_of_change grid p one other b ≤ cost grid p before after b
    no_less b before after le before_of after_of =
        omega (
          arith,
          by_second before after b le,
          sum_of_less 60 (lesser_second grid p one other b) (of_change before after b)
              (λ s lt.
              omega (
                arith,
                either_costs one other (λ s set. in_front grid p s set b) before before_of s lt,
                either_costs one other (λ s set. behind grid p s set b) after after_of s lt,
              )),
        )

    -- one costs that
    costs_least : (b : ℕ) → b ≤ 21
        → lesser_of_change grid p one other b ≡ cost grid p (cheaper_part one other (λ s set. in_front grid p s set b)) (cheaper_part one other (λ s set. behind grid p s set b)) b
    costs_least b le =
        let before = cheaper_part one other (λ s set. in_front grid p s set b) in
        let after = cheaper_part one other (λ s set. behind grid p s set b) in
        sum_below_same 60 (lesser_second grid p one other b) (of_change before after b)
        (λ s lt.
        omega (
          arith,
          cheaper_costs one other (λ s set. in_front grid p s set b) s lt,
          cheaper_costs one other (λ s set. behind grid p s set b) s lt,
        ))
        ∙ sym (by_second before after b le)

    -- so the sum up to a second is small
    pub sum_fits : (b s : ℕ) → b ≤ 21 → s < 60 → sum_below s (lesser_second grid p one other b) + lesser_second grid p one other b s ≤ 1_920_000_000
    sum_fits b s le lt =
        omega (
          arith,
          sum_below_more s (lesser_second grid p one other b),
          sum_of_fewer (s + 1) 60 (lesser_second grid p one other b) (omega arith),
          no_less b one one le (λ s lt. inl refl) (λ s lt. inl refl),
          small grid p one one bounded second b,
        )

    -- the least of those of all minutes of the window
    module _ (minutes sum : ℕ) (count : minutes ≡ (p + length grid.rows) / 60)
        (least : (b : ℕ) → 1 ≤ b → b ≤ minutes → sum ≤ lesser_of_change grid p one other b)
        (found : 1 ≤ minutes → (b : ℕ) × (1 ≤ b) × (b ≤ minutes) × (sum ≡ lesser_of_change grid p one other b)) where
      few : minutes ≤ 20
      few = omega (arith, count, second, bounded.short)

      of_found : (b : ℕ) → 1 ≤ b → b ≤ minutes → sum ≡ lesser_of_change grid p one other b → IsOfChange grid p one other sum
      of_found b some within is =
          record {
            minutes = b;
            some = some;
            within = omega (arith, within, count);
            before = cheaper_part one other (λ s set. in_front grid p s set b);
            before_of = cheaper_is_one one other (λ s set. in_front grid p s set b);
            after = cheaper_part one other (λ s set. behind grid p s set b);
            after_of = cheaper_is_one one other (λ s set. behind grid p s set b);
            costs = is ∙ costs_least b (omega (arith, few, within));
          }

      pub least_of_change : IsLeastOfChange grid p one other sum
      least_of_change = record {
        floor = λ b before after some within before_of after_of.
            let le : b ≤ minutes = omega (arith, within, count) in
            omega (arith, least b some le, no_less b before after (omega (arith, le, few)) before_of after_of);
        least = λ full.
            let is = found (omega (arith, full, count)) in
            of_found is.0 is.1 is.2 is.3;
      }
