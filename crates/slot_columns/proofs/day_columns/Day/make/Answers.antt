-- A column more.
use Rattle.std.proofs.Common.{◌≡◌, ◌%◌, ◌<◌, ℕ, List, [], true, false, length, get_or, slice_index, ap, arith, ◌∙◌}
use Rattle.std.proofs.lemmas.List.{length-set, length_push}
use Rattle.definitions.specs.time.Calendar.{minutes_per_day}
use Rattle.slot_columns.specs.Days.{hour_begin}
use Rattle.slot_columns.specs.declared.limits.TheConstants.{HOUR_MINUTES, REACHED_MINUTES, SETS}
use Rattle.slot_columns.specs.Rows.{index_of}
use Rattle.slot_columns.proofs.EntryLaws.{each_more, flagged_more}
use Rattle.slot_columns.proofs.day_columns.Day.make.Goals as goal

pub loop-s-preserved : goal.loop-s-preserved
loop-s-preserved c =
    let before = c.loop-s.invariant in
    let s = c.loop-s.s in
    let old = c.loop-s.columns.items in
    let new = c.push.new.self.items in
    let column = c.column_of-column.result in
    let is = c.in_ok-push.ensures.items in
    let times = c.args.times.now in
    let zero = λ (r : List ℕ). (i : ℕ) → i < REACHED_MINUTES → slice_index r i ≡ 0 in
    let hourly = λ (r : List ℕ). (i : ℕ) → i < REACHED_MINUTES → slice_index r i ≡ slice_index r (i % HOUR_MINUTES) in
    let steady = λ (r : List ℕ). (i : ℕ) → i < REACHED_MINUTES → slice_index r i ≡ slice_index r (hour_begin i) in
    record {
      long = length-set c.loop-s.used s c.is_used.result ∙ before.long;
      wide = length-set c.loop-s.hourly s c.is_hourly.result ∙ before.wide;
      broad = length-set c.loop-s.steady s c.is_steady.result ∙ before.broad;
      count = omega (arith, ap (λ (rows : List (List ℕ)). length rows) is, length_push old column, before.count);
      sets = each_more (λ s i n. n ≡ index_of (get_or (get_or times (i % minutes_per_day) []) s 0)) REACHED_MINUTES old new column s before.count is before.sets c.column_of-column.ensures.sets;
      bound = each_more (λ s i n. n < SETS) REACHED_MINUTES old new column s before.count is before.bound c.column_of-column.ensures.bound;
      unused = λ k i lt has within.
          flagged_more zero false false c.is_used.result c.loop-s.used old new column s before.count (omega (arith, before.long, c.loop-s-test.true)) is
          (λ j early flag x inside. before.unused j x early flag inside) c.is_used.ensures k lt has i within;
      repeats = λ k i lt has within.
          flagged_more hourly true false c.is_hourly.result c.loop-s.hourly old new column s before.count (omega (arith, before.wide, c.loop-s-test.true)) is
          (λ j early flag x inside. before.repeats j x early flag inside) c.is_hourly.ensures k lt has i within;
      stays = λ k i lt has within.
          flagged_more steady true false c.is_steady.result c.loop-s.steady old new column s before.count (omega (arith, before.broad, c.loop-s-test.true)) is
          (λ j early flag x inside. before.stays j x early flag inside) c.is_steady.ensures k lt has i within;
    }
