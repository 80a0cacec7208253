-- Shelves: what adding an entry does, and what lies in a place.
use Rattle.std.specs.Prelude.{ℕ, ◌+◌, ◌%◌, nat_lt, if◌then◌else◌, Option, None, Some, List, map, slice_set}
use Rattle.board_entries.specs.declared.entry.Entry.{Entry}
use Rattle.board_entries.specs.declared.told.TheConstants.{LAST_ENTRIES}
use Rattle.board_entries.specs.Board.{PlainEntry, or_before, told_of}
use Rattle.board_entries.specs.declared.told.Told.{Told}
use Rattle.board_entries.specs.Plain.{plain}
use Rattle.clock_board.specs.declared.shelf.Shelf.{Shelf}
use Rattle.clock_board.specs.declared.shelf.TheConstants.{MOST_ENTRIES}

-- the shelf with one entry more
abbrev pub with_entry : Shelf → Entry → Shelf
with_entry s e = record { entries = slice_set s.entries (s.count % LAST_ENTRIES) (Some e); count = s.count + 1 }

-- the shelf after an entry is added; a full board stays as it is
abbrev pub after_entry : Shelf → Entry → Shelf
after_entry s e = if nat_lt s.count MOST_ENTRIES then with_entry s e else s

-- an entry, if there is one, as the rules of a board see it
abbrev pub plain_or_none : Option Entry → Option PlainEntry
plain_or_none None = None
plain_or_none (Some e) = Some (plain e)

-- what lies in a place takes the place of what came before, where it is an entry that has the millisecond
abbrev pub or_laid : ℕ → Option PlainEntry → Option Entry → Option PlainEntry
or_laid ms before None = before
or_laid ms before (Some e) = or_before ms before (plain e)

-- what a list of entries tells of a millisecond
abbrev pub told : List Entry → ℕ → Told
told list ms = told_of (map plain list) ms

-- of two shelves the one with more entries; of two with as many the first
abbrev pub longer : Shelf → Shelf → Shelf
longer s t = if nat_lt s.count t.count then t else s
