-- What is owed in the window that is asked about.
use Rattle.std.proofs.Common.{List, sym, subst}
use Rattle.signal_base.specs.declared.window.Window.{Window}
use Rattle.sweep_due.specs.declared.offsets.TheConstants.{OFFSETS}
use Rattle.bank.specs.Hearing.{bank_seen}
use Rattle.sweep.specs.declared.heard.Heard.{Heard}
use Rattle.sweep.specs.Certifying.{Certifies}
use Rattle.sweep.specs.Keeping.{AreHeard}
use Rattle.sweep.proofs.certify.sweep_certified.Goals as goal

pub certify_phases-requires-clause-heard : goal.certify_phases-requires-clause-heard
certify_phases-requires-clause-heard g c lifetimes live =
    subst (λ (heard : List Heard). AreHeard c.window_of-window.result (bank_seen c.args.bank.now) OFFSETS heard) (sym c.as_slice.ensures.value) c.in_ok-heard.ensures.heard

pub returns-clause-ends : goal.returns-clause-ends
returns-clause-ends g c =
    let o = c.args.certify.now in
    subst (λ (w : Window). Certifies w (bank_seen c.args.bank.now) o.task.workers o.name.now (g.F.Files.view c.args.files.now) (g.F.Files.view c.certify_phases.new.files) c.certify_phases.result)
    c.window_of-window.ensures.window c.certify_phases.ensures.ends
