-- The entries of windows that were decoded.
use Rattle.std.specs.Prelude.{ℕ, ◌≡◌, Option, None, Some, List, [], ◌∷◌, map}
use Rattle.signal_base.specs.declared.window.Window.{Window}
use Rattle.due.specs.Banks.{Bank}
use Rattle.follow_due.specs.declared.window_report.WindowReport.{WindowReport}
use Rattle.follow_due.specs.Windows.{AreReportsOf, windows_from}
use Rattle.board_entries.specs.declared.entry.Entry.{Entry}
use Rattle.board_entries.specs.Board.{PlainEntry}
use Rattle.board_entries.specs.Plain.{plain}
use Rattle.board_due.specs.BoardAnswers.{entries_of}

-- the entry that there may be, as a list
abbrev pub listed : Option Entry → List PlainEntry
listed None = []
listed (Some e) = plain e ∷ []

-- these are the entries of the decided ones of so many windows of a bank
abbrev pub ArePublished : Bank → Window → ℕ → ℕ → List Entry → Type 0
ArePublished bank first step count entries =
    (reports : List WindowReport) × AreReportsOf bank (windows_from first step count) reports × (map plain entries ≡ entries_of reports)
