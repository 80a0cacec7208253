-- The lines of the slots so far are written.
use Rattle.std.proofs.Common.{◌≡◌, ◌≤◌, Ok}
use Rattle.bank_files.specs.Seen.{Writes}
use Rattle.bank_files.specs.Told.{output_name}
use Rattle.bank_files.specs.declared.files.Failed.{Failed}
use Rattle.definitions.specs.sequences.Walks.{place_at}
use Rattle.formats.specs.Heard.{slots_lines}
use Rattle.heard.specs.Seen.{hearing_seen}
use Rattle.heard.proofs.hearing.Hearing.write_slots.Given as goal

abbrev pub invariant-loop-slot : goal.invariant-loop-slot
invariant-loop-slot g l = record {
  here : l.place ≡ place_at l.self.sequence l.slot;
  second : l.place.1 ≤ 60;
  written : Writes {E = Failed} output_name (g.F.Files.view l.fn.files) (g.F.Files.view l.files) (slots_lines (hearing_seen l.self) l.slot) (Ok tt);
}
