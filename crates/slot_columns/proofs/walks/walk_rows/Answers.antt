use Rattle.std.proofs.Common.{◌≡◌, List, ℕ, length, slice_index, subst, sym, ap, ◌∙◌, arith}
use Rattle.std.proofs.lemmas.List.{length_push}
use Rattle.definitions.specs.heard.Costs.{sum_below}
use Rattle.definitions.specs.time.Calendar.{minutes_per_day}
use Rattle.slot_columns.specs.Days.{AreOfDay, day_cost}
use Rattle.slot_columns.proofs.EntryLaws.{each_more}
use Rattle.slot_columns.proofs.WalkLaws.{day_walk}
use Rattle.slot_columns.proofs.walks.walk_rows.Goals as goal

pub returns-clause-costs : goal.returns-clause-costs
returns-clause-costs c = λ p u second minute.
    let columns = c.day.inside.columns.items in
    let of_day = subst (λ (d : List (List ℕ)). AreOfDay d c.args.times.now) (sym c.day.view_is) c.in_ok-day.ensures in
    c.loop-p.invariant.each p u (omega arith) minute
    ∙ day_walk c.args.slots.now columns c.args.times.now p u of_day c.requires.bounded.short second minute

pub loop-p-preserved : goal.loop-p-preserved
loop-p-preserved c =
    let cost = λ (p u : ℕ). sum_below (length c.args.slots.now.rows) (day_cost c.args.slots.now c.day.inside.columns.items p u) in
    record {
      count = omega (arith, ap (λ (rows : List (List ℕ)). length rows) c.in_ok-push.ensures.items, length_push c.loop-p.costs.items c.walk_row.result, c.loop-p.invariant.count);
      each = each_more (λ p u n. n ≡ cost p u) minutes_per_day c.loop-p.costs.items c.push.new.self.items c.walk_row.result c.loop-p.p c.loop-p.invariant.count c.in_ok-push.ensures.items
          c.loop-p.invariant.each
          (λ u minute. subst (λ (d : List (List ℕ)). slice_index c.walk_row.result u ≡ sum_below (length c.args.slots.now.rows) (day_cost c.args.slots.now d c.loop-p.p u)) (sym c.day.view_is)
          (c.walk_row.ensures u minute));
    }
