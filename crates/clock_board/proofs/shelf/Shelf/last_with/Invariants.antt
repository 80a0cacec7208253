-- None of the entries that were looked at has the millisecond.
use Rattle.std.proofs.Common.{◌-◌, ◌≤◌, List}
use Rattle.board_entries.specs.declared.entry.Entry.{Entry}
use Rattle.clock_board.specs.Shown.{Shows}
use Rattle.clock_board.proofs.Listing.{NoneFrom}
use Rattle.clock_board.proofs.shelf.Shelf.last_with.Given as goal

abbrev pub invariant-loop-n : goal.invariant-loop-n
invariant-loop-n l = record {
  first : l.self.count - 64 ≤ l.n;
  none : (list : List Entry) → Shows l.self list → NoneFrom l.ms list l.n;
}
