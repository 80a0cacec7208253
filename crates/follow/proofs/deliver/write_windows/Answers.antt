-- One window after the other.
use Rattle.std.proofs.Common.{sym, subst, arith}
use Rattle.std.proofs.lemmas.List.{take_all}
use Rattle.std.proofs.lemmas.Result.{err_from_is_err_and}
use Rattle.bank_files.specs.Told.{output_name}
use Rattle.bank_files.proofs.Chaining.{Writes-start}
use Rattle.follow_due.specs.declared.window_report.WindowReport.{WindowReport}
use Rattle.follow.specs.Finding.{CanBeReported}
use Rattle.follow.proofs.WriteLaws.{window_fails, window_goes_on}
use Rattle.follow.proofs.deliver.write_windows.Goals as goal

pub loop-i-init : goal.loop-i-init
loop-i-init g c = Writes-start output_name (g.F.Files.view c.args.files.now) (g.met.F.Files.output_is_there c.args.files.now)

pub write_window-requires : goal.write_window-requires
write_window-requires g c =
    subst (λ (r : WindowReport). CanBeReported r) (sym c.index-reports-i.is) (c.requires c.loop-i.i c.index-reports-i.result c.loop-i-test.true)

pub returns-in_err-write_window : goal.returns-in_err-write_window
returns-in_err-write_window g c =
    let p = err_from_is_err_and c.from_residual.result c.from_residual.ensures.1 in
    rw p.1
    (window_fails c.args.reports.now c.loop-i.i (g.F.Files.view c.args.files.now) (g.F.Files.view c.loop-i.files) (g.F.Files.view c.write_window.new.files)
    c.index-reports-i.result c.loop-i-test.true c.index-reports-i.is c.loop-i.invariant c.in_err-write_window.field-0.0 c.in_err-write_window.ensures)

pub loop-i-preserved : goal.loop-i-preserved
loop-i-preserved g c =
    window_goes_on c.args.reports.now c.loop-i.i (g.F.Files.view c.args.files.now) (g.F.Files.view c.loop-i.files) (g.F.Files.view c.write_window.new.files)
    c.index-reports-i.result c.loop-i-test.true c.index-reports-i.is c.loop-i.invariant c.in_ok-write_window.ensures

pub returns : goal.returns
returns g c =
    let all = take_all c.loop-i.i c.args.reports.now (omega arith) in
    rw all at c.loop-i.invariant
