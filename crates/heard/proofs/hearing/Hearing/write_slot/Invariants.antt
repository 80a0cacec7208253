-- The lines of the stations so far are written.
use Rattle.std.proofs.Common.{Ok, take}
use Rattle.bank_files.specs.Seen.{Writes}
use Rattle.bank_files.specs.Told.{output_name}
use Rattle.bank_files.specs.declared.files.Failed.{Failed}
use Rattle.heard.specs.declared.write.TheConstants.{STATIONS}
use Rattle.heard.specs.Kept.{stations_lines}
use Rattle.heard.specs.Seen.{hearing_seen}
use Rattle.heard.proofs.hearing.Hearing.write_slot.Given as goal

abbrev pub invariant-loop-i : goal.invariant-loop-i
invariant-loop-i g l = Writes {E = Failed} output_name (g.F.Files.view l.fn.files) (g.F.Files.view l.files) (stations_lines (hearing_seen l.self) l.slot (take l.i STATIONS)) (Ok tt)
