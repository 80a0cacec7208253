use Rattle.std.proofs.Common.{◌≡◌, ℕ, ◌+◌, ◌*◌, Bool, false, List, get_or, refl, sym, ap, ◌∙◌, subst, arith, add-one}
use Rattle.signal_base.specs.Waveform.{waveform}
use Rattle.definitions.specs.codes.Allowed.{allowed}
use Rattle.definitions.specs.sequences.Walks.{next_place, place_at}
use Rattle.definitions.proofs.PlaceLaws.{IsInMinute, within_minute}
use Rattle.trial_log.specs.Clean.{changes, clean_level, clean_symbol, level_before, level_when}
use Rattle.trial_log.proofs.CleanLaws.{next_tenth, small_second}
use Rattle.trial_log.proofs.clean.clean_log.Goals as goal

pub loop-slot-init : goal.loop-slot-init
unfolding changes place_at
loop-slot-init c = record { place = refl; records = c.new-records.ensures.items; before = refl }

pub clean_wave-wave-requires-clause-second : goal.clean_wave-wave-requires-clause-second
clean_wave-wave-requires-clause-second c =
    subst (IsInMinute c.args.q.now.announced) (sym c.loop-slot.invariant.place)
    (within_minute c.args.q.now c.requires.second c.loop-slot.slot)

pub loop-tenth-init : goal.loop-tenth-init
loop-tenth-init c =
    let e : 1000 * c.loop-slot.slot ≡ 1000 * c.loop-slot.slot + 100 * 0 = omega arith in
    record {
      records = c.loop-slot.invariant.records ∙ ap (changes (clean_level c.args.station c.args.q.now)) e;
      before = c.loop-slot.invariant.before ∙ ap (level_before (clean_level c.args.station c.args.q.now)) e;
    }

pub loop-tenth-preserved : goal.loop-tenth-preserved
loop-tenth-preserved c =
    let station = c.args.station in
    let q = c.args.q.now in
    let slot = c.loop-slot.slot in
    let wave = c.clean_wave-wave.ensures
    ∙ ap (λ (p : ℕ × ℕ). waveform station (clean_symbol station p.1 (allowed station q.announced p))) c.loop-slot.invariant.place in
    let tenth = next_tenth station q slot c.loop-tenth.tenth c.loop-tenth-test.true _ _ _ _ c.loop-tenth.invariant.records
    c.loop-tenth.invariant.before (c.level_when-level.ensures ∙ ap (λ (w : List Bool). level_when (get_or w c.loop-tenth.tenth false)) wave)
    c.in_ok-push_change.ensures in
    let e : 1000 * slot + 100 * c.loop-tenth.tenth + 100 ≡ 1000 * slot + 100 * (c.loop-tenth.tenth + 1) = omega arith in
    record {
      records = tenth.0 ∙ ap (changes (clean_level station q)) e;
      before = tenth.1 ∙ ap (level_before (clean_level station q)) e;
    }

pub next_place-place-requires-clause-second : goal.next_place-place-requires-clause-second
next_place-place-requires-clause-second c =
    let small = small_second c.args.q.now c.requires.second c.loop-slot.slot in
    let e = ap (λ (p : ℕ × ℕ). p.1) c.loop-slot.invariant.place in
    omega (arith, small, e)

pub loop-slot-preserved : goal.loop-slot-preserved
unfolding place_at
loop-slot-preserved c =
    let e : 1000 * c.loop-slot.slot + 100 * c.loop-tenth.tenth ≡ 1000 * (c.loop-slot.slot + 1) = omega arith in
    record {
      place = rw add-one (c.next_place-place.ensures ∙ ap (next_place c.args.q.now.announced) c.loop-slot.invariant.place);
      records = c.loop-tenth.invariant.records ∙ ap (changes (clean_level c.args.station c.args.q.now)) e;
      before = c.loop-tenth.invariant.before ∙ ap (level_before (clean_level c.args.station c.args.q.now)) e;
    }
