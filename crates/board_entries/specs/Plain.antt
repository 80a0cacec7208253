-- An entry as the rules of a board see it.
use Rattle.board_entries.specs.declared.entry.Entry.{Entry}
use Rattle.board_entries.specs.Board.{PlainEntry}

-- the numbers of the entry and its sequence
abbrev pub plain : Entry → PlainEntry
plain e = record { start = e.start; phase = e.phase; seconds = e.seconds; sequence = e.sequence }
