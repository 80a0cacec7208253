-- One frame after the other.
use Rattle.std.proofs.Common.{add-one, refl, ap, ◌∙◌}
use Rattle.std.proofs.lemmas.Result.{err_from_is_err_and}
use Rattle.bank_files.specs.Told.{output_name}
use Rattle.bank_files.proofs.Chaining.{Writes-start}
use Rattle.definitions.specs.sequences.Walks.{next_place, place_at}
use Rattle.frame_runs.proofs.WalkLaws.{at_most_60, is_early, place_is_second, walk_fails, walk_goes_on}
use Rattle.frame_runs.proofs.deliver.write_walk.Goals as goal

pub loop-slot-init : goal.loop-slot-init
unfolding place_at
loop-slot-init g c = record { place = refl; written = Writes-start output_name (g.F.Files.view c.args.files.now) (g.met.F.Files.output_is_there c.args.files.now) }

pub write_frame-requires-clause-start : goal.write_frame-requires-clause-start
write_frame-requires-clause-start g c =
    is_early c.args.window.now c.args.q.now c.requires c.loop-slot.slot c.loop-slot-test.true c.frame_at-frame.result c.loop-slot.place c.frame_at-frame.ensures

pub write_frame-requires-clause-second : goal.write_frame-requires-clause-second
write_frame-requires-clause-second g c =
    rw c.frame_at-frame.ensures (place_is_second c.args.window.now c.args.q.now c.requires c.loop-slot.slot c.loop-slot-test.true c.loop-slot.place c.loop-slot.invariant.place)

pub next_place-place-requires-clause-century : goal.next_place-place-requires-clause-century
next_place-place-requires-clause-century g c =
    (place_is_second c.args.window.now c.args.q.now c.requires c.loop-slot.slot c.loop-slot-test.true c.loop-slot.place c.loop-slot.invariant.place).0

pub next_place-place-requires-clause-second : goal.next_place-place-requires-clause-second
next_place-place-requires-clause-second g c =
    at_most_60 c.args.window.now c.args.q.now c.requires c.loop-slot.slot c.loop-slot-test.true c.loop-slot.place c.loop-slot.invariant.place

pub returns-in_err-write_frame : goal.returns-in_err-write_frame
returns-in_err-write_frame g c =
    let p = err_from_is_err_and c.from_residual.result c.from_residual.ensures.1 in
    rw p.1
    (walk_fails c.args.window.now c.args.q.now c.loop-slot.slot (g.F.Files.view c.args.files.now) (g.F.Files.view c.loop-slot.files) (g.F.Files.view c.write_frame.new.files)
    c.frame_at-frame.result c.loop-slot.place c.frame_at-frame.ensures c.loop-slot.invariant.place c.loop-slot.invariant.written
    c.in_err-write_frame.field-0.0 c.loop-slot-test.true c.in_err-write_frame.ensures)

pub loop-slot-preserved : goal.loop-slot-preserved
unfolding place_at
loop-slot-preserved g c = record {
  place = rw add-one (c.next_place-place.ensures ∙ ap (next_place c.args.q.now.announced) c.loop-slot.invariant.place);
  written = walk_goes_on c.args.window.now c.args.q.now c.loop-slot.slot (g.F.Files.view c.args.files.now) (g.F.Files.view c.loop-slot.files)
      (g.F.Files.view c.write_frame.new.files) c.frame_at-frame.result c.loop-slot.place c.frame_at-frame.ensures c.loop-slot.invariant.place
      c.loop-slot.invariant.written c.in_ok-write_frame.ensures;
}
