use Rattle.std.proofs.Common.{◌≡◌, ◌≤◌, ◌<◌, ℕ, [], length, ap, ◌∙◌, arith}
use Rattle.minute_parts.specs.declared.runs.Run.{Run}
use Rattle.slot_columns.specs.Layered.{part_at}
use Rattle.walk_costs.specs.Dates.{kept}
use Rattle.walk_costs.proofs.PairLaws.{one_more, still}
use Rattle.walk_costs.proofs.kept.add_announced.Goals as goal

pub loop-i-preserved : goal.loop-i-preserved
loop-i-preserved c =
    let parts = c.args.parts.now in
    let station = c.args.station in
    let old = c.loop-i.all.items in
    let new = c.place_of_announced.new.all.items in
    let before = c.loop-i.invariant in
    let known = c.in_ok-place.ensures in
    let longer : length old ≤ length new = omega (arith, known.longer) in
    let others : (k : ℕ) → k < length old → part_at new k ≡ part_at old k = λ k lt. known.others k (omega (arith, lt)) in
    record {
      count = omega (arith, before.count, c.in_ok-push.ensures.len);
      first = still parts station old new longer others [] (length parts.runs) before.first;
      done = one_more parts station old new longer others c.loop-i.places.items c.push.new.self.items c.in_ok-place.place c.loop-i.i (omega (arith, before.count))
          c.in_ok-push.ensures.items before.done (omega (arith, known.within)) (known.place ∙ ap (λ (r : Run). kept station r.announced) c.run.ensures);
    }
