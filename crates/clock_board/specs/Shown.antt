-- Which list of entries a shelf shows.
use Rattle.std.specs.Prelude.{ℕ, ◌≡◌, ◌+◌, ◌%◌, ◌≤◌, Some, List, length}
use mathlib.Core.Option.{some}
use lib.ListN.{get_elem?}
use Rattle.board_entries.specs.declared.entry.Entry.{Entry}
use Rattle.board_entries.specs.declared.told.TheConstants.{LAST_ENTRIES}
use Rattle.clock_board.specs.declared.shelf.Shelf.{Shelf}

-- The shelf has as many entries as the list, and of its last 64 each lies in its place: the entry n at n modulo 64.
pub record Shows (s : Shelf) (list : List Entry) : Type 0 where
  pub number : s.count ≡ length list
  pub places : length s.entries ≡ LAST_ENTRIES
  pub laid : (n : ℕ) (e : Entry) → get_elem? list n ≡ some e → length list ≤ n + LAST_ENTRIES
      → get_elem? s.entries (n % LAST_ENTRIES) ≡ some (Some e)
