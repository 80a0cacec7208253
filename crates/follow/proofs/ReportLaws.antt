-- The reports so far, and one more.
use Rattle.std.proofs.Common.{List, [], ◌∷◌, ◌++◌, All, refl}
use Rattle.std.proofs.lemmas.List.Elements.{All-append, All-cons, All-nil}
use Rattle.signal_base.specs.declared.window.Window.{Window}
use Rattle.due.specs.Banks.{Bank}
use Rattle.follow_due.specs.declared.window_report.WindowReport.{WindowReport}
use Rattle.follow_due.specs.Windows.{AreReportsOf, IsReportOf}
use Rattle.follow.specs.Finding.{CanBeReported}

pub one_report_more : (bank : Bank) (windows : List Window) (reports : List WindowReport) (window : Window) (told : WindowReport)
    → AreReportsOf bank windows reports → IsReportOf bank window told → AreReportsOf bank (windows ++ window ∷ []) (reports ++ told ∷ [])
one_report_more bank [] [] window told are is = (is, refl)
one_report_more bank [] (r ∷ reports) window told are is = absurd cc
one_report_more bank (w ∷ windows) [] window told are is = absurd are
one_report_more bank (w ∷ windows) (r ∷ reports) window told are is = (are.0, one_report_more bank windows reports window told are.1 is)

pub one_more_can : (reports : List WindowReport) (told : WindowReport) → All CanBeReported reports → CanBeReported told → All CanBeReported (reports ++ told ∷ [])
one_more_can reports told all is = All-append CanBeReported reports (told ∷ []) all (All-cons CanBeReported told [] is (All-nil CanBeReported))
