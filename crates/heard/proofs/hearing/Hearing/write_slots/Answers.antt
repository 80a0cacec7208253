-- Slot by slot.
use Rattle.std.proofs.Common.{◌≡◌, ℕ, Ok, sym, subst, arith}
use Rattle.std.proofs.lemmas.Result.{err_from_is_err_and}
use Rattle.bank_files.specs.declared.files.Failed.{Failed}
use Rattle.bank_files.specs.Seen.{Writes}
use Rattle.bank_files.specs.Told.{output_name}
use Rattle.bank_files.proofs.Chaining.{Writes-start}
use Rattle.formats.specs.Heard.{slots_lines}
use Rattle.sequence.proofs.Walking.{place_at-zero, walked_on}
use Rattle.heard.specs.Seen.{hearing_seen}
use Rattle.heard.proofs.TextLaws.{goes_on, no_slots, one_slot_more, slots_after, stops_short}
use Rattle.heard.proofs.WalkLaws.{in_century}
use Rattle.heard.proofs.hearing.Hearing.write_slots.Goals as goal

pub loop-slot-init : goal.loop-slot-init
loop-slot-init g c =
    let h = hearing_seen c.args.self.now in
    let view = g.F.Files.view c.args.files.now in
    record {
      here = sym (place_at-zero c.args.self.now.sequence);
      second = c.args.self.now.kept.sequence_is.first_second;
      written = rw (no_slots h) (Writes-start {E = Failed} output_name view (g.met.F.Files.output_is_there c.args.files.now));
    }

pub loop-slot-preserved : goal.loop-slot-preserved
loop-slot-preserved g c =
    let h = hearing_seen c.args.self.now in
    let q = c.args.self.now.sequence in
    let k = c.loop-slot.slot in
    let before = c.loop-slot.invariant in
    let on = walked_on q k c.loop-slot.place c.next_place-place.result before.here c.next_place-place.ensures in
    record {
      here = on.0;
      second = on.1.second;
      written =
          goes_on {E = Failed} (g.F.Files.view c.args.files.now) (g.F.Files.view c.loop-slot.files) (g.F.Files.view c.write_slot.new.files) _ _ _ (Ok tt)
          (one_slot_more h k) before.written c.in_ok-write_slot.ensures;
    }

pub returns-in_err-write_slot : goal.returns-in_err-write_slot
returns-in_err-write_slot g c =
    let h = hearing_seen c.args.self.now in
    let k = c.loop-slot.slot in
    let p = err_from_is_err_and c.from_residual.result c.from_residual.ensures.1 in
    let rest = slots_after h k c.args.self.now.window.seconds c.loop-slot-test.true in
    rw (p.1, p.2)
    (stops_short {E = Failed} (g.F.Files.view c.args.files.now) (g.F.Files.view c.loop-slot.files) (g.F.Files.view c.write_slot.new.files) _ _ _ c.in_err-write_slot.field-0.0
    rest.0 rest.1 c.loop-slot.invariant.written c.in_err-write_slot.ensures)

pub returns : goal.returns
returns g c =
    let h = hearing_seen c.args.self.now in
    let end : c.loop-slot.slot ≡ c.args.self.now.window.seconds = omega arith in
    subst (λ (n : ℕ). Writes {E = Failed} output_name (g.F.Files.view c.args.files.now) (g.F.Files.view c.loop-slot.files) (slots_lines h n) (Ok tt)) end c.loop-slot.invariant.written

pub next_place-place-requires-clause-century : goal.next_place-place-requires-clause-century
next_place-place-requires-clause-century g c =
    let self = c.args.self.now in
    in_century self.window self.sequence self.kept.walkable c.loop-slot.slot c.loop-slot.place c.loop-slot.invariant.here c.loop-slot-test.true
