-- Its first line decides.
use Rattle.std.proofs.Common.{ℕ, List, inl, inr, refl, sym, subst, arith}
use Rattle.signal_base.specs.declared.window.Window.{Window}
use Rattle.certificates.specs.declared.fault.CertificateLineFault.TheVariants.{Shape}
use Rattle.certificates.specs.Judged.{IsBadCertificate}
use Rattle.formats.specs.Refusals.CertificateFault.{BadLine}
use Rattle.due.specs.Banks.{bank_of, costs_in}
use Rattle.sweep_due.specs.Examples.{two_minutes}
use Rattle.sweep_due.specs.JudgeRules.{Bad, IsJudged}
use Rattle.sweep_due.specs.JudgeRules.JudgeDue.{NotCertified}
use Rattle.sweep_due.specs.Phases.{window_at}
use Rattle.judge_due.specs.JudgeDues.{Files_judged, files_in}
use Rattle.judge_due.proofs.ExampleLaws.{asks, order_of_k}
use Rattle.judge_due.proofs.examples.first_certificate_without_a_byte.Goals as goal

pub returns : goal.returns
returns c = λ contents config records loaded same empty.
    let bank = bank_of config records in
    let moved = window_at (two_minutes 30) 2 in
    Files_judged order_of_k asks config records loaded (NotCertified 2 (BadLine 1))
    (subst (λ (w : Window). IsJudged w bank (files_in contents) (NotCertified 2 (BadLine 1))) (sym same)
    (Bad 2 (BadLine 1)
    (inl (
      subst (λ (bytes : List ℕ). IsBadCertificate (costs_in moved bank) moved bank.ceiling bytes (BadLine 1)) (sym empty)
          (inr (inl (omega arith, 1, Shape, c.bad_lines.ensures.nothing, refl))),
      refl,
    )) refl)) refl
