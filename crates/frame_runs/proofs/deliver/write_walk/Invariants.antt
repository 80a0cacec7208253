-- The frames so far are written, and the place of the next is known.
use Rattle.std.proofs.Common.{◌≡◌, map, Ok}
use Rattle.std.specs.List.{range_with_len}
use Rattle.bank_files.specs.declared.files.Failed.{Failed}
use Rattle.bank_files.specs.Told.{output_name}
use Rattle.bank_files.specs.Seen.{Writes}
use Rattle.definitions.specs.sequences.Walks.{place_at}
use Rattle.formats.specs.Frames.{frames_text}
use Rattle.formats.specs.FrameWalks.{walk_frame}
use Rattle.frame_runs.proofs.deliver.write_walk.Given as goal

abbrev pub invariant-loop-slot : goal.invariant-loop-slot
invariant-loop-slot g l = record {
  place : l.place ≡ place_at l.q l.slot;
  written : Writes {E = Failed} output_name (g.F.Files.view l.fn.files) (g.F.Files.view l.files) (frames_text (map (walk_frame l.window l.q) (range_with_len 0 l.slot))) (Ok tt);
}
