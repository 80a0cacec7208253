-- One offset after the other.
use Rattle.std.proofs.Common.{◌≡◌, ℕ, List, sym, subst, arith}
use Rattle.sweep_due.specs.declared.offsets.TheConstants.{OFFSETS}
use Rattle.bank.specs.Hearing.{bank_seen}
use Rattle.sweep.specs.declared.heard.Heard.{Heard}
use Rattle.sweep.specs.Keeping.{AreHeard}
use Rattle.sweep.proofs.KeptLaws.{none_heard}
use Rattle.sweep.proofs.heard.hear_phases.Goals as goal

pub loop-offset-init : goal.loop-offset-init
loop-offset-init c =
    let window = c.args.window.now in
    let bank = bank_seen c.args.bank.now in
    subst (λ (heard : List Heard). AreHeard window bank 0 heard) (sym c.new-heard.ensures.items) (none_heard window bank)

pub loop-offset-preserved : goal.loop-offset-preserved
loop-offset-preserved c = c.in_ok-add_phase.ensures.adds c.loop-offset.invariant

pub returns-clause-heard : goal.returns-clause-heard
returns-clause-heard c =
    let all : c.loop-offset.offset ≡ OFFSETS = omega arith in
    subst (λ (n : ℕ). AreHeard c.args.window.now (bank_seen c.args.bank.now) n c.loop-offset.heard.items) all c.loop-offset.invariant
