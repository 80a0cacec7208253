-- It is what is told of the bank.
use Rattle.std.proofs.Common.{◌≡◌, sym, subst}
use Rattle.signal_base.specs.declared.window.Window.{Window}
use Rattle.due.specs.declared.check_due.CheckDue.TheVariants.{Certified}
use Rattle.due.specs.Banks.{IsBankAnswer, bank_of, duts_of, window_of}
use Rattle.due.specs.Inputs.{Certificate}
use Rattle.check_due.proofs.CheckDueLaws.{told_of_bank}
use Rattle.check_due.proofs.laws.what_a_check_certifies_is_the_answer.Goals as goal

pub returns : goal.returns
returns c words contents o config records window answer duts asks loaded owed =
    let bank = bank_of config records in
    let asked = window_of o.asked bank.receivers in
    let parts = c.one_thing_is_told_of_a_certificate.ensures.answer asked bank (contents Certificate) window answer duts
    (told_of_bank contents words o config records (Certified window answer duts) asks loaded owed) in (
      parts.0,
      subst (λ (w : Window). IsBankAnswer w bank answer) (sym parts.0) parts.1,
      subst (λ (w : Window). duts ≡ duts_of w bank answer) (sym parts.0) parts.2,
    )
