-- The keys of valid certificates are put together as those of searches; and where one is bad, it is told.
use Rattle.std.proofs.Common.{IfOk, subst}
use Rattle.std.proofs.lemmas.Result.{IfOk-weaker, err_from_is_err_and}
use Rattle.signal_base.specs.declared.window.Window.{Window}
use Rattle.sweep_due.specs.declared.offsets.TheConstants.{OFFSETS}
use Rattle.bank.specs.Hearing.{bank_seen}
use Rattle.checks.proofs.FoundLaws.{other_error}
use Rattle.judges.specs.declared.offsets.Judged.{Judged}
use Rattle.judges.specs.declared.owed.JudgeOwed.TheVariants.{NotCertified}
use Rattle.judges.specs.Judging.{FailsJudging, IsCertified, IsJudgedSo, IsWindowFound, swept_below}
use Rattle.judges.proofs.ChosenLaws.{choose_all}
use Rattle.judges.proofs.ReportLaws.{certified_found}
use Rattle.judges.proofs.find.judge_bank.Goals as goal

pub report_of-requires-clause-searched : goal.report_of-requires-clause-searched
report_of-requires-clause-searched g c =
    let old = g.F.Files.view c.args.files.now in
    let window = c.window_of-window.result in
    let bank = bank_seen c.args.bank.now in
    let name = c.args.task.now.name.now in
    let standing = c.in-Good.standing in
    let named = subst (λ (j : Judged). IsJudgedSo old name window bank j) c.in-Good.is c.in_ok-judged.ensures.judged in
    let (files, valid) = choose_all old name window bank standing named in
    c.valid_certificates_decide_a_sweep.ensures window bank files (swept_below window.phase OFFSETS) standing valid.3

pub returns-in-Good-clause-found : goal.returns-in-Good-clause-found
returns-in-Good-clause-found g c =
    let old = g.F.Files.view c.args.files.now in
    let window = c.window_of-window.result in
    let bank = bank_seen c.args.bank.now in
    let name = c.args.task.now.name.now in
    let named = subst (λ (j : Judged). IsJudgedSo old name window bank j) c.in-Good.is c.in_ok-judged.ensures.judged in
    subst (λ (w : Window). IfOk c.report_of.result (IsWindowFound old name w bank)) c.window_of-window.ensures.window
    (IfOk-weaker c.report_of.result (IsCertified window bank) (IsWindowFound old name window bank)
    (λ owed is. certified_found old name window bank c.in-Good.standing named owed is) c.report_of.ensures.reported)

pub returns-in-Bad-clause-found : goal.returns-in-Bad-clause-found
returns-in-Bad-clause-found g c =
    let old = g.F.Files.view c.args.files.now in
    let bank = bank_seen c.args.bank.now in
    let name = c.args.task.now.name.now in
    subst (λ (w : Window). IsWindowFound old name w bank (NotCertified c.in-Bad.offset c.in-Bad.fault)) c.window_of-window.ensures.window
    (subst (λ (j : Judged). IsJudgedSo old name c.window_of-window.result bank j) c.in-Bad.is c.in_ok-judged.ensures.judged)

pub returns-in_err-judged-clause-failed : goal.returns-in_err-judged-clause-failed
returns-in_err-judged-clause-failed g c = λ e.
    let old = g.F.Files.view c.args.files.now in
    let new = g.F.Files.view c.judge_offsets.new.files in
    let bank = bank_seen c.args.bank.now in
    let p = err_from_is_err_and c.from_residual.result c.from_residual.ensures.1 in
    subst (λ (w : Window). FailsJudging old new c.args.task.now.name.now w bank) c.window_of-window.ensures.window
    (c.in_err-judged.ensures.failed (other_error _ _ (rw (p.1, p.2) at e)))
