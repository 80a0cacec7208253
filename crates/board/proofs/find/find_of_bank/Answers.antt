-- The first window is the one of a decode, and the queries are read behind the logs.
use Rattle.std.proofs.Common.{◌≡◌, Err, inl, inr, refl, ap, subst}
use Rattle.std.specs.Prelude.{IsErrOf}
use Rattle.std.proofs.lemmas.Result.{IfOk-weaker}
use Rattle.signal_base.specs.declared.window.Window.{Window}
use Rattle.follow_due.specs.Windows.{StartInTime, StartTooLate}
use Rattle.board_due.specs.declared.board_due.BoardDue.{BoardDue}
use Rattle.board_due.specs.BoardRules.{IsAnswered}
use Rattle.bank.specs.declared.stop.Stop.{Stop}
use Rattle.bank.specs.declared.stop.Stop.TheVariants.{Failed}
use Rattle.bank.specs.Hearing.{bank_seen}
use Rattle.board.specs.declared.text.QueryText.{QueryText}
use Rattle.board.specs.Asking.{IsBoardedBy, told_seen}
use Rattle.board.specs.Tasks.{order_seen}
use Rattle.board.proofs.find.find_of_bank.Goals as goal

pub returns-then-starts_too_late-clause-boarded : goal.returns-then-starts_too_late-clause-boarded
returns-then-starts_too_late-clause-boarded g c =
    let t = c.args.task.now in
    inl (subst (λ (w : Window). StartTooLate w t.step t.count) c.window_of-first.ensures.window (c.starts_too_late.ensures.late c.if-starts_too_late.true), refl)

pub returns-in-Ok-clause-boarded : goal.returns-in-Ok-clause-boarded
returns-in-Ok-clause-boarded g c =
    let t = c.args.task.now in
    let o = order_seen t in
    let bank = bank_seen c.args.bank.now in
    let text = told_seen c.in-Ok.text in
    let early = subst (λ (w : Window). StartInTime w t.step t.count) c.window_of-first.ensures.window (c.starts_too_late.ensures.in_time c.if-starts_too_late.false) in
    let (bytes, found, is) = c.in-Ok.ensures.told in
    IfOk-weaker c.due_of.result (IsAnswered o bank text) (IsBoardedBy o bank (g.F.Files.view c.args.files.now))
    (λ (due : BoardDue) answered. inr (early, (bytes, found, (text, is, answered)))) c.due_of.ensures.answered

-- why nothing is due is why nothing was read
as_text : (stop : Stop) → IsErrOf {T = BoardDue} (Err stop) Failed → IsErrOf {T = QueryText} (Err stop) Failed
as_text stop e =
    let same : stop ≡ Failed = cc in
    ap Err same

pub returns-in-Err-clause-failed : goal.returns-in-Err-clause-failed
returns-in-Err-clause-failed g c = λ e.
    let t = c.args.task.now in (
      subst (λ (w : Window). StartInTime w t.step t.count) c.window_of-first.ensures.window (c.starts_too_late.ensures.in_time c.if-starts_too_late.false),
      c.in-Err.ensures.failed (as_text c.in-Err.stop e),
    )
