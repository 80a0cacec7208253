-- The grids are those of the window before, and the windows so far are told.
use Rattle.std.proofs.Common.{◌-◌, All}
use Rattle.follow_due.specs.Windows.{AreReportsOf, window_after, windows_from}
use Rattle.bank.specs.Hearing.{AreBankGrids, bank_seen}
use Rattle.follow.specs.Finding.{CanBeReported}
use Rattle.follow.proofs.windows.decode_windows.Given as goal

abbrev pub invariant-loop-i : goal.invariant-loop-i
invariant-loop-i g l = record {
  grids : AreBankGrids l.bank (window_after l.first l.step (l.i - 1)) l.grids.items;
  told : AreReportsOf (bank_seen l.bank) (windows_from l.first l.step l.i) l.reports.items;
  can_be_reported : All CanBeReported l.reports.items;
}
