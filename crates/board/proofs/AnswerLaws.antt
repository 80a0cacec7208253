-- The answers are due that askers and the tracker gave.
use Rattle.std.proofs.Common.{◌≡◌, ℕ, List, map, sym, ◌∙◌, subst}
use Rattle.signal_base.specs.declared.window.Window.{Window}
use Rattle.due.specs.Banks.{Bank}
use Rattle.follow_due.specs.FollowOrders.{first_window}
use Rattle.follow_due.specs.Windows.{AreReportsOf, windows_from}
use Rattle.board_entries.specs.declared.entry.Entry.{Entry}
use Rattle.board_entries.specs.Board.{PlainEntry}
use Rattle.board_entries.specs.Plain.{plain}
use Rattle.board_due.specs.declared.board_due.BoardDue.TheVariants.{Answers}
use Rattle.board_due.specs.BoardAnswers.{AreCounts, entries_of}
use Rattle.board_due.specs.BoardOrders.{BoardOrder}
use Rattle.board_due.specs.BoardRules.{IsAnswered}
use Rattle.board_due.specs.Queries.QueriesTold.{Read}
use Rattle.board.specs.Finding.{AreAnswerable}
use Rattle.board.specs.Publishing.{ArePublished}

made_alike : (a b : List PlainEntry) (queries p q : List ℕ) → a ≡ b → p ≡ q → Answers a queries p ≡ Answers b queries q
made_alike a b queries p q e f = cc

module _ (kept : List Entry) (entries : List PlainEntry) (queries counts numbers : List ℕ) (are : entries ≡ map plain kept) (same : numbers ≡ counts) where
  pub answers_due : (o : BoardOrder) (bank : Bank) (first : Window) → first ≡ first_window o.follow bank → ArePublished bank first o.follow.step o.follow.count kept
      → AreCounts o.readers (map plain kept) queries counts → IsAnswered o bank (Read queries) (Answers entries queries numbers)
  answers_due o bank first is (reports, told, made) fit = (
    reports,
    subst (λ (w : Window). AreReportsOf bank (windows_from w o.follow.step o.follow.count) reports) is told,
    (
      counts,
      subst (λ (es : List PlainEntry). AreCounts o.readers es queries counts) made fit,
      made_alike entries (entries_of reports) queries numbers counts (are ∙ made) same,
    ),
  )

  pub answers_can : (readers : ℕ) → AreCounts readers (map plain kept) queries counts → AreAnswerable entries queries numbers
  answers_can readers fit =
      subst (λ (es : List PlainEntry). AreAnswerable es queries numbers) (sym are)
      (subst (λ (ns : List ℕ). AreAnswerable (map plain kept) queries ns) (sym same) (record { each = fit.each; most = fit.most }))
