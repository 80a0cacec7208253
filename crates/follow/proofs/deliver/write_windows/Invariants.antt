-- The windows so far are written.
use Rattle.std.proofs.Common.{take, Ok}
use Rattle.bank_files.specs.declared.files.Failed.{Failed}
use Rattle.bank_files.specs.Told.{output_name}
use Rattle.bank_files.specs.Seen.{Writes}
use Rattle.follow_due.specs.FollowDues.{windows_text}
use Rattle.follow.proofs.deliver.write_windows.Given as goal

abbrev pub invariant-loop-i : goal.invariant-loop-i
invariant-loop-i g l = Writes {E = Failed} output_name (g.F.Files.view l.fn.files) (g.F.Files.view l.files) (windows_text (take l.i l.reports)) (Ok tt)
