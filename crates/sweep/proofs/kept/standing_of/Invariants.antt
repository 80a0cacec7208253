-- What is kept so far was searched.
use Rattle.std.proofs.Common.{ℕ, List, All}
use Rattle.signal_base.specs.declared.window.Window.{Window}
use Rattle.due.specs.Banks.{Bank}
use Rattle.sweep_due.specs.Searches.{IsSearched}
use Rattle.sweep.specs.Keeping.{IsKeptAt, offsets_kept}
use Rattle.sweep.specs.Turns.{latest_of}
use Rattle.sweep.proofs.kept.standing_of.Given as goal

abbrev pub invariant-loop-i : goal.invariant-loop-i
invariant-loop-i l =
    (window : Window) (bank : Bank) (name : List ℕ) → All (IsKeptAt window bank name) l.kept → IsSearched window bank (latest_of (offsets_kept l.kept) l.i) l.standing
