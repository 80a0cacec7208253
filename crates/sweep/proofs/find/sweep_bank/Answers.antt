-- The window that is swept is the one of a decode.
use Rattle.std.proofs.Common.{subst}
use Rattle.std.proofs.lemmas.Result.{IfOk-weaker}
use Rattle.signal_base.specs.declared.window.Window.{Window}
use Rattle.sweep_due.specs.SweepRules.{IsBankSwept, IsSweepReport}
use Rattle.bank.specs.Hearing.{bank_seen}
use Rattle.sweep_due.specs.declared.offsets.TheConstants.{OFFSETS}
use Rattle.sweep.specs.Tasks.{order_seen}
use Rattle.sweep.specs.Turns.{offsets_of}
use Rattle.sweep.proofs.TurnLaws.{all_offsets}
use Rattle.sweep.proofs.find.sweep_bank.Goals as goal

pub report_of-requires-clause-searched : goal.report_of-requires-clause-searched
report_of-requires-clause-searched g c =
    let phase = c.window_of-window.result.phase in
    (offsets_of phase OFFSETS, all_offsets phase, c.in_ok-standing.ensures.searched)

pub returns-clause-swept : goal.returns-clause-swept
returns-clause-swept g c =
    let bank = bank_seen c.args.bank.now in
    IfOk-weaker c.report_of.result (IsSweepReport c.window_of-window.result bank) (IsBankSwept (order_seen c.args.task.now) bank)
    (λ due is. subst (λ (w : Window). IsSweepReport w bank due) c.window_of-window.ensures.window is) c.report_of.ensures.reported
