-- One window after the other.
use Rattle.std.proofs.Common.{◌≡◌, ◌+◌, ◌-◌, ◌∙◌, List, All, sym, subst, arith}
use Rattle.std.proofs.lemmas.List.Elements.{All-nil}
use Rattle.signal_base.specs.declared.window.Window.{Window}
use Rattle.field_tables.specs.Scopes.{scopes_of}
use Rattle.follow_due.specs.declared.window_report.WindowReport.{WindowReport}
use Rattle.follow_due.specs.Windows.{IsReportOf, window_after, windows_from}
use Rattle.follow_due.proofs.WindowLaws.{window_in_range}
use Rattle.bank.specs.Hearing.{AreBankGrids, bank_seen}
use Rattle.follow.specs.Finding.{CanBeReported}
use Rattle.follow.proofs.ReportLaws.{one_more_can, one_report_more}
use Rattle.follow.proofs.StepLaws.{first_grids, grids_at, one_window_more}
use Rattle.follow.proofs.windows.decode_windows.Goals as goal

pub loop-i-init : goal.loop-i-init
loop-i-init g c =
    let none = c.new-reports.ensures.items in
    let made = c.in_ok-grids.ensures in
    record {
      grids = first_grids c.args.bank.now c.args.first.now c.args.step c.in_ok-grids.grids.items (record { are_grids = made.grids; costs_are = made.costs; of_bank = made.receivers });
      told = none;
      can_be_reported = subst (λ (rs : List WindowReport). All CanBeReported rs) (sym none) (All-nil CanBeReported);
    }

pub move_to-window-requires-clause-start : goal.move_to-window-requires-clause-start
move_to-window-requires-clause-start g c =
    (window_in_range c.args.first.now c.args.step c.args.count c.loop-i.i c.requires.window c.requires.last c.loop-i-test.true).start

-- each window has the stations and the length of the first
pub report_of-requires-clause-parts : goal.report_of-requires-clause-parts
report_of-requires-clause-parts g c lifetimes live =
    subst (λ (w : Window). c.deref.result.now ≡ scopes_of w.stations w.seconds) (sym c.move_to-window.ensures.window) (c.deref.ensures.value ∙ c.in_ok-parts.ensures)

pub loop-i-preserved : goal.loop-i-preserved
loop-i-preserved g c =
    let i = c.loop-i.i in
    let first = c.args.first.now in
    let step = c.args.step in
    let bank = bank_seen c.args.bank.now in
    let told = c.in_ok-told.told in
    let reports = c.loop-i.reports.items in
    let pushed = c.in_ok-push.ensures.items in
    let same : i ≡ i + 1 - 1 = omega arith in
    let window = c.move_to-window.ensures.window in
    let is = subst (λ (w : Window). IsReportOf bank w told) window c.in_ok-told.ensures.told in
    let grids = subst (λ (w : Window). AreBankGrids c.args.bank.now w c.move_to-window.new.grids.items) window c.move_to-window.ensures.grids in
    record {
      grids = grids_at c.args.bank.now first step i (i + 1 - 1) c.move_to-window.new.grids.items same grids;
      told = rw (pushed, one_window_more first step i) (one_report_more bank (windows_from first step i) reports (window_after first step i) told c.loop-i.invariant.told is);
      can_be_reported = rw pushed (one_more_can reports told c.loop-i.invariant.can_be_reported c.in_ok-told.ensures.can_be_written);
    }

pub returns-clause-told : goal.returns-clause-told
returns-clause-told g c =
    let all : c.loop-i.i ≡ c.args.count = omega arith in
    rw (c.new.ensures, sym all) c.loop-i.invariant.told

pub returns-clause-can_be_written : goal.returns-clause-can_be_written
returns-clause-can_be_written g c = rw c.new.ensures c.loop-i.invariant.can_be_reported
