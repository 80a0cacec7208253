-- Of each window there is one report, and so of all of them one list.
use Rattle.std.proofs.Common.{◌≡◌, ℕ, ◌≤◌, List, [], ◌∷◌, map, refl, sym, ap, ◌∙◌}
use Rattle.signal_base.specs.declared.dut.StationDut.{StationDut}
use Rattle.signal_base.specs.declared.window.Window.{Window}
use Rattle.definitions.specs.declared.answer.Answer.{Answer}
use Rattle.definitions.specs.time.Calendar.{century_minutes}
use Rattle.definitions.proofs.AnswerLaws.{window_answer_is_one}
use Rattle.definitions.proofs.ExistLaws.{an_answer}
use Rattle.due.specs.Banks.{Bank, costs_in, duts_of}
use Rattle.follow_due.specs.declared.window_report.WindowReport.{WindowReport}
use Rattle.follow_due.specs.Windows.{AreReportsOf, IsReportOf, window_after}

by_fields : (v w : Window) (a b : Answer) (d e : List StationDut) → v ≡ w → a ≡ b → d ≡ e
    → ◌≡◌ {A = WindowReport} (record { window = v; answer = a; duts = d }) (record { window = w; answer = b; duts = e })
by_fields v w a b d e f g h = cc

module _ (bank : Bank) where
  one_report : (window : Window) (x y : WindowReport) → window.to ≤ century_minutes → IsReportOf bank window x → IsReportOf bank window y → x ≡ y
  one_report window x y century h k =
      let same = window_answer_is_one window (costs_in window bank) bank.ceiling x.answer y.answer century h.answer_is k.answer_is in
      by_fields x.window y.window x.answer y.answer x.duts y.duts (h.window_is ∙ sym k.window_is) same (h.duts_are ∙ ap (duts_of window bank) same ∙ sym k.duts_are)

  both : (x y : WindowReport) (xs ys : List WindowReport) → x ≡ y → xs ≡ ys → x ∷ xs ≡ y ∷ ys
  both x y xs ys e f = cc

  pub one_list : (first : Window) (step : ℕ) (ks : List ℕ) (xs ys : List WindowReport) → first.to ≤ century_minutes
      → AreReportsOf bank (map (window_after first step) ks) xs → AreReportsOf bank (map (window_after first step) ks) ys → xs ≡ ys
  one_list first step [] xs ys century h k = h ∙ sym k
  one_list first step (n ∷ ks) [] ys century h k = absurd h
  one_list first step (n ∷ ks) (x ∷ xs) [] century h k = absurd k
  one_list first step (n ∷ ks) (x ∷ xs) (y ∷ ys) century h k =
      both x y xs ys (one_report (window_after first step n) x y century h.0 k.0) (one_list first step ks xs ys century h.1 k.1)

  pub some_list : (first : Window) (step : ℕ) (ks : List ℕ) → first.to ≤ century_minutes → (xs : List WindowReport) × AreReportsOf bank (map (window_after first step) ks) xs
  some_list first step [] century = ([], refl)
  some_list first step (n ∷ ks) century =
      let window = window_after first step n in
      let found = an_answer window (costs_in window bank) bank.ceiling century in
      let rest = some_list first step ks century in
      (record { window = window; answer = found.0; duts = duts_of window bank found.0 } ∷ rest.0, (record { window_is = refl; answer_is = found.1; duts_are = refl }, rest.1))
