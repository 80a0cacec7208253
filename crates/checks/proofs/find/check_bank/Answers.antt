-- What is told by the grids is told of the bank, in the window that is asked about.
use Rattle.std.proofs.Common.{◌≡◌, ℕ, List, refl, sym, subst}
use Rattle.std.proofs.lemmas.Result.{IfOk-weaker}
use Rattle.signal_base.specs.declared.window.Window.{Window}
use Rattle.symbol_cost.specs.Grid.{Grid}
use Rattle.field_tables.specs.Grids.{HaveCosts}
use Rattle.due.specs.declared.check_due.CheckDue.{CheckDue}
use Rattle.due.specs.Banks.{Bank, costs_in}
use Rattle.due.specs.CertificateRules.{IsChecked}
use Rattle.check_due.specs.CheckRules.{IsBankChecked}
use Rattle.bank.specs.Hearing.{bank_seen}
use Rattle.bank.specs.Loading.{IsReadAs}
use Rattle.checks.specs.Tasks.{order_seen}
use Rattle.checks.proofs.find.check_bank.Goals as goal

pub returns-clause-checked : goal.returns-clause-checked
returns-clause-checked g c =
    let old = g.F.Files.view c.args.files.now in
    let window = c.window_of-window.result in
    let bank = bank_seen c.args.bank.now in
    let file = c.args.task.now.certificate.now in
    let have = subst (λ (gs : List Grid). HaveCosts window gs (costs_in window bank)) (sym c.as_slice.ensures.value) c.in_ok-grids.ensures.costs in
    IfOk-weaker c.check_window.result
    (λ (due : CheckDue). (b : Bank) → c.args.bank.now.ceiling ≡ b.ceiling → HaveCosts window c.as_slice.result.now (costs_in window b) → IsReadAs old file (λ bytes. IsChecked window b bytes due))
    (λ (due : CheckDue). IsReadAs old file (λ bytes. IsBankChecked (order_seen c.args.task.now) bank bytes due))
    (λ due is. subst (λ (w : Window). IsReadAs old file (λ bytes. IsChecked w bank bytes due)) c.window_of-window.ensures.window (is bank refl have)) c.check_window.ensures.checked
