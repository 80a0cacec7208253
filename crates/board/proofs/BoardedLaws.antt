-- What is due of a bank in the order of its stations is due of the bank. And no failure is due.
use Rattle.std.proofs.Common.{◌≡◌, inl, inr, List, refl, subst, arith}
use Rattle.signal_base.specs.declared.window.Window.{Window}
use Rattle.bank_files.specs.Seen.{Seen}
use Rattle.due.specs.Banks.{Bank, ordered}
use Rattle.due.proofs.StationLaws.{same_window}
use Rattle.follow_due.specs.declared.follow_due.FollowDue.TheVariants as followed
use Rattle.follow_due.specs.declared.window_report.WindowReport.{WindowReport}
use Rattle.follow_due.specs.FollowOrders.{FollowOrder, followed_windows}
use Rattle.follow_due.specs.FollowRules.{Bad_count, IsFollowed, Reported}
use Rattle.follow_due.specs.Windows.{AreReportsOf, StartInTime, StartTooLate}
use Rattle.follow.proofs.FollowedLaws.{followed_in_order}
use Rattle.board_due.specs.declared.board_due.BoardDue.{BoardDue}
use Rattle.board_due.specs.declared.board_due.BoardDue.TheVariants as dues
use Rattle.bank.proofs.EndingLaws.{IsNoFailure}
use Rattle.bank.proofs.RunLaws.{is_no_failure}
use Rattle.board_due.specs.BoardDues.{board_status}
use Rattle.board_due.specs.BoardOrders.{BoardOrder}
use Rattle.board_due.specs.BoardRules.{IsAnswered, IsInTime, IsLate}
use Rattle.board_due.specs.Queries.{QueriesTold}
use Rattle.board_due.specs.Queries.QueriesTold.{BadLine, Read, TooLarge}
use Rattle.board.specs.Asking.{IsBoardedBy}

-- the reports of a bank's windows, as `follow` owes them
reports_told : (o : FollowOrder) (bank : Bank) (reports : List WindowReport) → IsFollowed o bank (followed.Windows reports) → AreReportsOf bank (followed_windows o bank) reports
reports_told o bank reports (Bad_count late e) = absurd cc
reports_told o bank reports (Reported early others are e) =
    subst (λ (rs : List WindowReport). AreReportsOf bank (followed_windows o bank) rs) (same e) are
  where
    same : followed.Windows reports ≡ followed.Windows others → others ≡ reports
    same e = cc

module _ (o : BoardOrder) (bank : Bank) where
  late_in_order : IsLate o.follow (ordered bank) → IsLate o.follow bank
  late_in_order late = subst (λ (w : Window). StartTooLate w o.follow.step o.follow.count) (same_window o.follow.asked bank.receivers) late

  early_in_order : IsInTime o.follow (ordered bank) → IsInTime o.follow bank
  early_in_order early = subst (λ (w : Window). StartInTime w o.follow.step o.follow.count) (same_window o.follow.asked bank.receivers) early

  answered_in_order : (t : QueriesTold) (due : BoardDue) → IsInTime o.follow (ordered bank) → IsAnswered o (ordered bank) t due → IsAnswered o bank t due
  answered_in_order TooLarge due early is = is
  answered_in_order (BadLine number) due early is = is
  answered_in_order (Read queries) due early (reports, are, rest) =
      (reports, reports_told o.follow bank reports (followed_in_order o.follow bank (ordered bank) (followed.Windows reports) refl (Reported early reports are refl)), rest)

  boarded : (old : Seen) (due : BoardDue) → IsBoardedBy o (ordered bank) old due → IsBoardedBy o bank old due
  boarded old due (inl (late, e)) = inl (late_in_order late, e)
  boarded old due (inr (early, (bytes, found, (t, is, answered)))) =
      inr (early_in_order early, (bytes, found, (t, is, answered_in_order t due early answered)))

  pub boarded_in_order : (seen : Bank) (old : Seen) (due : BoardDue) → seen ≡ ordered bank → IsBoardedBy o seen old due → IsBoardedBy o bank old due
  boarded_in_order seen old due same is = boarded old due (subst (λ (b : Bank). IsBoardedBy o b old due) same is)

  pub in_time_in_order : (seen : Bank) → seen ≡ ordered bank → IsInTime o.follow seen → IsInTime o.follow bank
  in_time_in_order seen same early = early_in_order (subst (λ (b : Bank). IsInTime o.follow b) same early)

-- what is due never ends a run as a failed file or want of memory does
pub is_no_board_failure : (due : BoardDue) → IsNoFailure (board_status due)
is_no_board_failure (dues.Told due) = is_no_failure due
is_no_board_failure dues.TooLarge = (λ six. omega (arith, six), λ seven. omega (arith, seven))
is_no_board_failure (dues.BadLine number) = (λ six. omega (arith, six), λ seven. omega (arith, seven))
is_no_board_failure (dues.Answers entries queries counts) = (λ six. omega (arith, six), λ seven. omega (arith, seven))
