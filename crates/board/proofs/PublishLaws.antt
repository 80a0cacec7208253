-- The entries so far, and those of one window more.
use Rattle.std.proofs.Common.{◌≡◌, ℕ, ◌+◌, List, [], ◌∷◌, ◌++◌, map, refl, sym, ap, ◌∙◌, subst, append-nil}
use Rattle.std.proofs.lemmas.Grind.{flat_map-append}
use Rattle.signal_base.specs.declared.window.Window.{Window}
use Rattle.due.specs.Banks.{Bank}
use Rattle.follow_due.specs.declared.window_report.WindowReport.{WindowReport}
use Rattle.follow_due.specs.Windows.{AreReportsOf, IsReportOf, window_after, windows_from}
use Rattle.follow.proofs.ReportLaws.{one_report_more}
use Rattle.follow.proofs.StepLaws.{one_window_more}
use Rattle.board_entries.specs.declared.entry.Entry.{Entry}
use Rattle.board_entries.specs.Board.{PlainEntry}
use Rattle.board_entries.specs.Plain.{plain}
use Rattle.board_due.specs.BoardAnswers.{entries_of, entry_of}
use Rattle.board.specs.Publishing.{ArePublished}

entries_more : (reports : List WindowReport) (told : WindowReport) → entries_of (reports ++ told ∷ []) ≡ entries_of reports ++ entry_of told.window told.answer
entries_more reports told =
    flat_map-append (λ (r : WindowReport). entry_of r.window r.answer) reports (told ∷ []) ∙ ap (λ l. entries_of reports ++ l) (append-nil (entry_of told.window told.answer))

pub none_published : (bank : Bank) (first : Window) (step : ℕ) (entries : List Entry) → entries ≡ [] → ArePublished bank first step 0 entries
none_published bank first step entries none = ([], refl, ap (λ (es : List Entry). map plain es) none)

pub window_published : (bank : Bank) (first : Window) (step i : ℕ) (before after : List Entry) (window : Window) (told : WindowReport) → ArePublished bank first step i before
    → window ≡ window_after first step i → IsReportOf bank window told → map plain after ≡ map plain before ++ entry_of told.window told.answer
    → ArePublished bank first step (i + 1) after
window_published bank first step i before after window told (reports, are, made) same is more = (
  reports ++ told ∷ [],
  subst (λ (ws : List Window). AreReportsOf bank ws (reports ++ told ∷ [])) (sym (one_window_more first step i))
      (one_report_more bank (windows_from first step i) reports (window_after first step i) told are (subst (λ (w : Window). IsReportOf bank w told) same is)),
  more ∙ (ap (λ (es : List PlainEntry). es ++ entry_of told.window told.answer) made ∙ sym (entries_more reports told)),
)
