-- The rule that the board is under.
use Rattle.std.specs.Prelude.{ℕ, ◌≡◌, List}
use mathlib.Core.Option.{some}
use lib.ListN.{get_elem?}
use Rattle.board_entries.specs.declared.entry.Entry.{Entry}
use Rattle.clock_board.specs.declared.shelf.Shelf.{Shelf}
use Rattle.clock_board.specs.declared.view.View.{View}
use Rattle.clock_board.specs.Shown.{Shows}
use Rattle.clock_board.specs.Views.{Knows, StartsWith}

-- there is one list of entries, which the shelf shows, and it begins with all that anyone saw or was told
abbrev pub Keeps : Shelf → List View → Type 0
Keeps s views = (list : List Entry) × Shows s list × ((seat : ℕ) (v : View) → get_elem? views seat ≡ some v → Knows list v)

-- what is seen afterwards is what the shelf y shows; it begins with all that was seen, and with all that was told
abbrev pub Sees : View → Shelf → Shelf → View → Type 0
Sees v x y w = StartsWith w.seen v.seen × StartsWith w.seen v.told × Shows y w.seen × (w.told ≡ v.told)
