-- Seconds that carry the same in each hour, or throughout an hour.
use Rattle.std.proofs.Common.{◌≡◌, ℕ, ◌+◌, ◌*◌, ◌/◌, ◌%◌, ◌<◌, ◌≤◌, List, slice_index, ap, sym, ◌∙◌, arith}
use Rattle.signal_base.specs.declared.limits.TheConstants.{MOST_RECEIVERS}
use Rattle.symbol_cost.specs.Grid.{Grid, cost_at}
use Rattle.symbol_cost.specs.declared.limits.TheConstants.{RECEIVER_COST}
use Rattle.slot_columns.specs.Days.{hour_begin}
use Rattle.slot_columns.specs.Parts.{entry}
use Rattle.slot_columns.specs.Rows.{IsRow, cost_in_slot}
use Rattle.slot_columns.specs.declared.limits.TheConstants.{HOUR_MINUTES, REACHED_MINUTES, SETS}
use Rattle.slot_columns.proofs.SetLaws.{none_chosen}

module _ (grid : Grid) (columns : List (List ℕ)) (s m k : ℕ) where
  -- what slot k costs that lies in second s of walk minute m
  abbrev cost : ℕ → ℕ
  cost u = cost_in_slot grid (entry columns s (u + m)) k

  -- a second that isn't used costs nothing
  pub unused : ((i : ℕ) → i < REACHED_MINUTES → entry columns s i ≡ 0) → (u : ℕ) → u + m < REACHED_MINUTES → cost u ≡ 0
  unused none u reached = ap (λ set. cost_in_slot grid set k) (none (u + m) reached) ∙ none_chosen grid.station (cost_at grid.rows k)

  -- what stands in the row at the column's place is what the slot costs
  pub looked_up : (row column : List ℕ) → IsRow row grid k → ((i : ℕ) → slice_index column i ≡ entry columns s i)
      → ((i : ℕ) → i < REACHED_MINUTES → slice_index column i < SETS) → (u : ℕ) → u + m < REACHED_MINUTES
      → (slice_index row (slice_index column (u + m)) ≡ cost u) × (cost u ≤ MOST_RECEIVERS * RECEIVER_COST)
  looked_up row column is there bound u reached =
      let at = there (u + m) in
      let few = bound (u + m) reached in
      let found : slice_index row (slice_index column (u + m)) ≡ cost u =
      is.each (slice_index column (u + m)) few ∙ ap (λ set. cost_in_slot grid set k) at in
      (found, omega (arith, found, is.small (slice_index column (u + m)) few))

  -- and it costs in a minute of the day what it does in that minute of the first hour
  pub in_any_hour : ((i : ℕ) → i < REACHED_MINUTES → entry columns s i ≡ entry columns s (i % HOUR_MINUTES)) → (u : ℕ) → u + m < REACHED_MINUTES
      → cost (u % 60) ≡ cost u
  in_any_hour repeats u reached =
      let low : u % 60 + m < REACHED_MINUTES = omega (arith, reached) in
      let same : (u % 60 + m) % 60 ≡ (u + m) % 60 = omega arith in
      ap (λ set. cost_in_slot grid set k)
      (repeats (u % 60 + m) low ∙ ap (entry columns s) same ∙ sym (repeats (u + m) reached))

  -- or what stands in the row for the beginning of the hour in which the slot lies
  pub in_its_hour : (row column : List ℕ) → IsRow row grid k → ((i : ℕ) → slice_index column i ≡ entry columns s i)
      → ((i : ℕ) → i < REACHED_MINUTES → slice_index column i < SETS) → ((i : ℕ) → i < REACHED_MINUTES → entry columns s i ≡ entry columns s (hour_begin i))
      → (u : ℕ) → u + m < REACHED_MINUTES
      → (slice_index row (slice_index column (60 * ((u + m) / 60))) ≡ cost u) × (cost u ≤ MOST_RECEIVERS * RECEIVER_COST)
  in_its_hour row column is there bound stays u reached =
      let begin : 60 * ((u + m) / 60) ≡ hour_begin (u + m) = omega arith in
      let low : 60 * ((u + m) / 60) < REACHED_MINUTES = omega (arith, reached) in
      let few = bound (60 * ((u + m) / 60)) low in
      let found : slice_index row (slice_index column (60 * ((u + m) / 60))) ≡ cost u =
      is.each (slice_index column (60 * ((u + m) / 60))) few
      ∙ ap (λ set. cost_in_slot grid set k) (there (60 * ((u + m) / 60)) ∙ ap (entry columns s) begin ∙ sym (stays (u + m) reached)) in
      (found, omega (arith, found, is.small (slice_index column (60 * ((u + m) / 60))) few))
