-- The grids are those of the window before, and the entries so far are published and kept.
use Rattle.std.proofs.Common.{◌≡◌, ◌-◌, ◌≤◌, length}
use Rattle.follow_due.specs.Windows.{window_after}
use Rattle.clock_board.specs.Seats.{published}
use Rattle.bank.specs.Hearing.{AreBankGrids, bank_seen}
use Rattle.board.specs.Publishing.{ArePublished}
use Rattle.board.proofs.publish.publish_windows.Given as goal

abbrev pub invariant-loop-i : goal.invariant-loop-i
invariant-loop-i g l = record {
  grids : AreBankGrids l.bank (window_after l.first l.step (l.i - 1)) l.grids.items;
  made : ArePublished (bank_seen l.bank) l.first l.step l.i l.entries.items;
  same : published l.tracker ≡ l.entries.items;
  few : length l.entries.items ≤ l.i;
}
