-- What is told of a bank in the order of its stations is told of the bank.
use Rattle.std.proofs.Common.{◌≡◌, true, false, List, [], ◌∷◌, refl, ◌∙◌, subst, arith}
use Rattle.signal_base.specs.declared.window.Window.{Window}
use Rattle.definitions.specs.answers.Answers.{IsWindowAnswer}
use Rattle.definitions.specs.heard.Costs.{Costs}
use Rattle.formats.specs.declared.option.OptionName.TheVariants.{Count}
use Rattle.formats.specs.declared.refusal.Refusal.TheVariants.{WordsBad}
use Rattle.due.specs.declared.due.Due.TheVariants.{Refused}
use Rattle.due.specs.Banks.{Bank, ordered}
use Rattle.due.proofs.StationLaws.{same_costs, same_window}
use Rattle.follow_due.specs.declared.follow_due.FollowDue.{FollowDue}
use Rattle.follow_due.specs.declared.follow_due.FollowDue.TheVariants.{Told, Windows}
use Rattle.follow_due.specs.declared.window_report.WindowReport.{WindowReport}
use Rattle.follow_due.specs.FollowDues.{all_decided, follow_status}
use Rattle.follow_due.specs.FollowOrders.{FollowOrder, first_window, followed_windows}
use Rattle.follow_due.specs.FollowRules.{Bad_count, IsFollowed, Reported}
use Rattle.follow_due.specs.Windows.{AreReportsOf, IsReportOf, StartInTime, StartTooLate, windows_from}
use Rattle.bank.proofs.EndingLaws.{IsNoFailure}
use Rattle.bank.proofs.EntryLaws.{same_duts}
use Rattle.bank.proofs.RunLaws.{is_no_failure}

report_in_order : (bank : Bank) (window : Window) (told : WindowReport) → IsReportOf (ordered bank) window told → IsReportOf bank window told
report_in_order bank window told is = record {
  window_is = is.window_is;
  answer_is = subst (λ (costs : Costs). IsWindowAnswer window costs bank.ceiling told.answer) (same_costs window bank) is.answer_is;
  duts_are = is.duts_are ∙ same_duts window bank told.answer;
}

reports_in_order : (bank : Bank) (windows : List Window) (reports : List WindowReport) → AreReportsOf (ordered bank) windows reports → AreReportsOf bank windows reports
reports_in_order bank [] reports are = are
reports_in_order bank (w ∷ windows) [] are = absurd are
reports_in_order bank (w ∷ windows) (r ∷ reports) are = (report_in_order bank w r are.0, reports_in_order bank windows reports are.1)

followed : (o : FollowOrder) (bank : Bank) (due : FollowDue) → IsFollowed o (ordered bank) due → IsFollowed o bank due
followed o bank due (Bad_count late e) = Bad_count (subst (λ (w : Window). StartTooLate w o.step o.count) (same_window o.asked bank.receivers) late) e
followed o bank due (Reported early reports are e) =
    let same = same_window o.asked bank.receivers in
    Reported (subst (λ (w : Window). StartInTime w o.step o.count) same early) reports
    (reports_in_order bank (followed_windows o bank) reports (subst (λ (w : Window). AreReportsOf (ordered bank) (windows_from w o.step o.count) reports) same are)) e

pub followed_in_order : (o : FollowOrder) (bank seen : Bank) (due : FollowDue) → seen ≡ ordered bank → IsFollowed o seen due → IsFollowed o bank due
followed_in_order o bank seen due same is = followed o bank due (subst (λ (b : Bank). IsFollowed o b due) same is)

-- what is told of the windows from the first one on is told of the bank
pub reported_windows : (o : FollowOrder) (bank : Bank) (first : Window) (reports : List WindowReport) → first ≡ first_window o bank → StartInTime first o.step o.count
    → AreReportsOf bank (windows_from first o.step o.count) reports → IsFollowed o bank (Windows reports)
reported_windows o bank first reports is early are =
    Reported (subst (λ (w : Window). StartInTime w o.step o.count) is early) reports (subst (λ (w : Window). AreReportsOf bank (windows_from w o.step o.count) reports) is are) refl

pub refused_count : (o : FollowOrder) (bank : Bank) (first : Window) → first ≡ first_window o bank → StartTooLate first o.step o.count → IsFollowed o bank (Told (Refused (WordsBad Count)))
refused_count o bank first is late = Bad_count (subst (λ (w : Window). StartTooLate w o.step o.count) is late) refl

-- no due status is one of a failure
pub is_no_follow_failure : (due : FollowDue) → IsNoFailure (follow_status due)
is_no_follow_failure (Told due) = is_no_failure due
is_no_follow_failure (Windows reports) = by_cases (all_decided reports) refl
  where
    by_cases : (all : _) → all_decided reports ≡ all → IsNoFailure (follow_status (Windows reports))
    by_cases true is = (λ six. omega (arith, rw is at six), λ seven. omega (arith, rw is at seven))
    by_cases false is = (λ six. omega (arith, rw is at six), λ seven. omega (arith, rw is at seven))
