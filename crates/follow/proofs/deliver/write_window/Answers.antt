-- The line of a window, and then its report.
use Rattle.std.proofs.lemmas.Result.{err_from_is_err_and}
use Rattle.bank_files.specs.Told.{output_name}
use Rattle.bank_files.specs.Seen.{Writes}
use Rattle.bank_files.proofs.Chaining.{Writes-failed, Writes-then}
use Rattle.formats.specs.Reports.{report}
use Rattle.follow_due.specs.FollowDues.{window_line}
use Rattle.follow.proofs.deliver.write_window.Goals as goal

pub returns-in_err-write_text : goal.returns-in_err-write_text
returns-in_err-write_text g c =
    let told = c.args.told.now in
    let p = err_from_is_err_and c.from_residual.result c.from_residual.ensures.1 in
    rw p.1
    (Writes-failed output_name (g.F.Files.view c.args.files.now) (g.F.Files.view c.write_text.new.files) (window_line told.window) (report told.window told.duts told.answer)
    c.in_err-write_text.field-0.0 (rw c.window_line.ensures at c.in_err-write_text.ensures))

pub returns : goal.returns
returns g c =
    let told = c.args.told.now in
    Writes-then output_name (g.F.Files.view c.args.files.now) (g.F.Files.view c.write_text.new.files) (g.F.Files.view c.write_report.new.files)
    (window_line told.window) (report told.window told.duts told.answer) c.write_report.result (rw c.window_line.ensures at c.in_ok-write_text.ensures) (rw c.as_slice.ensures at c.write_report.ensures)
