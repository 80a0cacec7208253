-- A walk, slot by slot.
use Rattle.std.proofs.Common.{ℕ, ◌==◌, ◌/◌, ◌&&◌, refl, sym, ap, ◌∙◌}
use Rattle.definitions.specs.heard.Costs.{lies_in_one_day}
use Rattle.definitions.specs.sequences.Walks.{place_at}
use Rattle.definitions.specs.time.Calendar.{minutes_per_day}
use Rattle.sequence.proofs.Walking.{place_at-zero, walked_on}
use Rattle.heard.proofs.ValueLaws.{all_more}
use Rattle.heard.proofs.WalkLaws.{in_century}
use Rattle.heard.proofs.values.lies_in_one_day.Goals as goal

pub loop-slot-init : goal.loop-slot-init
loop-slot-init c = record { here = sym (place_at-zero c.args.q.now); second = c.requires.sequence.first_second; one_day = refl }

pub loop-slot-preserved : goal.loop-slot-preserved
loop-slot-preserved c =
    let q = c.args.q.now in
    let k = c.loop-slot._slot in
    let before = c.loop-slot.invariant in
    let on = walked_on q k c.loop-slot.place c.next_place-place.result before.here c.next_place-place.ensures in
    record {
      here = on.0;
      second = on.1.second;
      one_day =
          ap (λ b. b && (c.loop-slot.place.0 / minutes_per_day == q.first / minutes_per_day)) before.one_day
          ∙ ap (λ (p : ℕ × ℕ). lies_in_one_day k q && (p.0 / minutes_per_day == q.first / minutes_per_day)) before.here
          ∙ sym (all_more (λ j. (place_at q j).0 / minutes_per_day == q.first / minutes_per_day) k);
    }

pub next_place-place-requires-clause-century : goal.next_place-place-requires-clause-century
next_place-place-requires-clause-century c =
    in_century c.args.window.now c.args.q.now c.requires.walkable c.loop-slot._slot c.loop-slot.place c.loop-slot.invariant.here c.loop-slot-test.true
