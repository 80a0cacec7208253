-- Views of the entries, and what comes of two of them.
use Rattle.std.specs.Prelude.{◌≡◌, List, [], ◌++◌}
use Rattle.board_entries.specs.declared.entry.Entry.{Entry}
use Rattle.clock_board.specs.declared.view.View.{View}

-- the list begins with these entries
abbrev pub StartsWith : List Entry → List Entry → Type 0
StartsWith list front = (rest : List Entry) × (list ≡ front ++ rest)

-- nothing was seen or told
abbrev pub newcomer : View
newcomer = record { seen = []; told = [] }

-- one who is told what the other saw
abbrev pub informed : View → View → View
informed v w = record { seen = v.seen; told = w.seen }

-- the list begins with all that was seen, and with all that was told
abbrev pub Knows : List Entry → View → Type 0
Knows list v = StartsWith list v.seen × StartsWith list v.told
