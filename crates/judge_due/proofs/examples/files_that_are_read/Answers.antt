-- The first swept offset is read, whatever the certificates are.
use Rattle.std.proofs.Common.{inl, refl, sym, subst}
use Rattle.std.specs.Fmt.{digits}
use Rattle.signal_base.specs.declared.window.Window.{Window}
use Rattle.due.specs.Banks.{bank_of}
use Rattle.due.specs.Loads.{Reads_configuration}
use Rattle.sweep_due.specs.JudgeRules.{IsReadAt}
use Rattle.sweep_due.specs.Phases.{swept_offsets}
use Rattle.judge_due.specs.JudgeDues.{Reads_bank, Reads_certificate, files_in}
use Rattle.judge_due.proofs.ExampleLaws.{asks, order_of_k}
use Rattle.judge_due.proofs.examples.files_that_are_read.Goals as goal

pub returns-clause-first : goal.returns-clause-first
returns-clause-first c = λ contents. Reads_bank order_of_k asks (Reads_configuration refl refl)

pub returns-clause-certificate : goal.returns-clause-certificate
unfolding digits
returns-clause-certificate c = λ contents config records loaded same.
    Reads_certificate order_of_k asks config records loaded 2
    (subst (λ (w : Window). IsReadAt w (bank_of config records) (files_in contents) (swept_offsets w.phase) 2) (sym same) (inl refl)) refl refl
