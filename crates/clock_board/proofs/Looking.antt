-- What lies on a shelf that shows a list.
use Rattle.std.proofs.Common.{◌≡◌, ℕ, suc, zero, ◌%◌, ◌-◌, ◌<◌, ◌≤◌, None, Some, List, [], ◌∷◌, get_or, sym, arith}
use mathlib.Core.Option.{some, some-injective, some-ne-none}
use lib.ListN.{get_elem?}
use Rattle.board_entries.specs.declared.entry.Entry.{Entry}
use Rattle.clock_board.specs.declared.shelf.Shelf.{Shelf}
use Rattle.clock_board.specs.Shown.{Shows}
use Rattle.clock_board.proofs.Shelving.{there}

got : {A : Type 0} (l : List A) (i : ℕ) (d a : A) → get_elem? l i ≡ some a → get_or l i d ≡ a
got [] i d a e = absurd (some-ne-none a (sym e))
got (x ∷ xs) zero d a e = some-injective x a e
got (x ∷ xs) (suc i) d a e = got xs i d a e

-- the entry of a number among the last 64 lies in its place
pub lies : (s : Shelf) (list : List Entry) → Shows s list → (n : ℕ) → s.count - 64 ≤ n → n < s.count
    → (e : Entry) × (get_elem? list n ≡ some e) × (get_or s.entries (n % 64) None ≡ Some e)
lies s list shows n near lt =
    let number = shows.number in
    let e = there list n (omega arith) in
    (e.0, e.1, got s.entries (n % 64) None (Some e.0) (shows.laid n e.0 e.1 (omega arith)))
