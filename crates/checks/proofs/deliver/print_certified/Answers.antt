-- The line, and then the report, or a front of either.
use Rattle.std.proofs.Common.{Ok, subst, ap}
use Rattle.std.proofs.lemmas.Result.{err_from_is_err_and}
use Rattle.bank_files.specs.Told.{output_name}
use Rattle.bank_files.specs.Seen.{Writes}
use Rattle.bank_files.proofs.Chaining.{Writes-failed, Writes-then}
use Rattle.formats.specs.Reports.{report}
use Rattle.checks.proofs.deliver.print_certified.Goals as goal

pub returns-in_err-write_text : goal.returns-in_err-write_text
returns-in_err-write_text g c =
    let p = err_from_is_err_and c.from_residual.result c.from_residual.ensures.1 in
    rw (p.1, p.2)
    (Writes-failed output_name (g.F.Files.view c.args.files.now) (g.F.Files.view c.write_text.new.files) _ (report c.args.window.now c.args.duts.now c.args.answer.now)
    c.in_err-write_text.field-0.0 (rw c.certified_line.ensures at c.in_err-write_text.ensures))

pub returns : goal.returns
returns g c =
    Writes-then output_name (g.F.Files.view c.args.files.now) (g.F.Files.view c.write_text.new.files) (g.F.Files.view c.write_report.new.files) _
    (report c.args.window.now c.args.duts.now c.args.answer.now) c.write_report.result (rw c.certified_line.ensures at c.in_ok-write_text.ensures) c.write_report.ensures
