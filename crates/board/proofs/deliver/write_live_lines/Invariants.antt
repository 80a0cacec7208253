-- The answers so far are written.
use Rattle.std.proofs.Common.{map, take, Ok}
use Rattle.bank_files.specs.declared.files.Failed.{Failed}
use Rattle.bank_files.specs.Told.{output_name}
use Rattle.bank_files.specs.Seen.{Writes}
use Rattle.board_entries.specs.Plain.{plain}
use Rattle.board_due.specs.BoardAnswers.{live_lines}
use Rattle.board.proofs.deliver.write_live_lines.Given as goal

abbrev pub invariant-loop-i : goal.invariant-loop-i
invariant-loop-i g l =
    Writes {E = Failed} output_name (g.F.Files.view l.fn.files) (g.F.Files.view l.files)
    (live_lines (map plain l.entries) (take l.i l.queries) (take l.i l.counts)) (Ok tt)
