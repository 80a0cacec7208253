-- Each turn goes to the next record, and the stretch after the last of them is counted at the end.
use Rattle.std.proofs.Common.{◌≡◌, ◌-◌, ◌<◌, ◌≤◌, ◌∙◌, ℕ, length, get_or, Option, ap, sym, arith}
use Rattle.std.proofs.lemmas.List.{get_or_default}
use Rattle.definitions.specs.declared.level.Level.{Level}
use Rattle.definitions.specs.declared.level.Level.TheVariants.{High}
use Rattle.pulse_log.specs.Place.{count_levels}
use Rattle.pulse_log.proofs.PlaceLaws.{StandsAfter-next, StandsAfter-stays, low_count-start}
use Rattle.pulse_log.proofs.CountLaws.{counted_more, counted_room}
use Rattle.pulse_log.proofs.look.low_from.Goals as goal
use Rattle.pulse_log.proofs.look.low_from.Goals.{then-loop-count-test+else-records-count, else-loop-count-test}

pub loop-count-init : goal.loop-count-init
loop-count-init c = record {
  started = omega arith;
  within = c.requires.order;
  place = c.requires.place;
  counted = sym (low_count-start c.args.records.now c.args.from);
}

pub overflow_sub-next : goal.overflow_sub-next
overflow_sub-next c = let later = c.loop-count.invariant.place.after c.loop-count.count (0, High) (omega arith) c.loop-count-test.true in omega arith

pub overflow_cast-next : goal.overflow_cast-next
overflow_cast-next c = let started = c.loop-count.invariant.started in omega arith

pub with_stretch-low-requires : goal.with_stretch-low-requires
with_stretch-low-requires c =
    let later = c.loop-count.invariant.place.after c.loop-count.count (0, High) (omega arith) c.loop-count-test.true in
    counted_room c.args.records.now c.args.from c.args.to c.loop-count.at (get_or c.args.records.now c.loop-count.count (0, High)).0 c.loop-count.count 1000 c.loop-count.low c.loop-count.invariant (omega arith) (omega arith)

pub loop-count-preserved : goal.loop-count-preserved
loop-count-preserved c =
    let so_far = c.loop-count.invariant in
    let log = c.args.records.now in
    let n = c.loop-count.count in
    let next = (get_or log n (0, High)).0 in
    let later : c.loop-count.at < next = so_far.place.after n (0, High) (omega arith) c.loop-count-test.true in
    record {
      started = let started = so_far.started in omega arith;
      within = c.if-records-count.true;
      place = StandsAfter-next log c.loop-count.at n (0, High) c.requires.rising so_far.place c.loop-count-test.true;
      counted = c.with_stretch-low.ensures ∙ ap (λ (l : Level). count_levels l (next - c.loop-count.at) c.loop-count.low) c.level_after.ensures
          ∙ counted_more log c.args.from c.args.to c.loop-count.at next n c.loop-count.low c.requires.rising so_far (omega arith)
          (λ d h. let same = ap (λ (r : ℕ × Level). r.0) (get_or_default log n d (0, High) h) in omega arith);
    }

pub level_after-requires-2 : goal.level_after-requires-2
level_after-requires-2 c = c.loop-count.invariant.place.within

pub overflow_sub-to : goal.overflow_sub-to
overflow_sub-to c = c.loop-count.invariant.within

pub overflow_cast-to : goal.overflow_cast-to
overflow_cast-to c = let started = c.loop-count.invariant.started in omega arith

pub with_stretch-low-requires-2 : goal.with_stretch-low-requires-2
with_stretch-low-requires-2 c =
    counted_room c.args.records.now c.args.from c.args.to c.loop-count.at c.args.to c.loop-count.count 1000 c.loop-count.low c.loop-count.invariant c.loop-count.invariant.within c.requires.short

pub returns : goal.returns
returns c =
    let so_far = c.loop-count.invariant in
    let log = c.args.records.now in
    let n = c.loop-count.count in
    let later : (d : ℕ × Level) → n < length log → c.args.to < (get_or log n d).0 =
    λ d h. elim c.loop-count-test.branch [
      | then-loop-count-test+else-records-count w ↦ (let same = ap (λ (r : ℕ × Level). r.0) (get_or_default log n d (0, High) h) in let after = w.if-records-count.false in omega arith)
      | else-loop-count-test w ↦ (let none = w.loop-count-test.false in absurd (omega arith))
    ] in
    record {
      low = c.with_stretch-low-2.ensures ∙ ap (λ (l : Level). count_levels l (c.args.to - c.loop-count.at) c.loop-count.low) c.level_after-2.ensures
          ∙ counted_more log c.args.from c.args.to c.loop-count.at c.args.to n c.loop-count.low c.requires.rising so_far so_far.within (λ d h. omega (arith, later d h));
      place = StandsAfter-stays log c.loop-count.at c.args.to n c.requires.rising so_far.place so_far.within later;
    }
