-- What is owed of the bank that was loaded is written, or what is refused of it is told.
use Rattle.std.proofs.Common.{◌∙◌, subst}
use Rattle.signal_base.specs.declared.window.Window.{Window}
use Rattle.bank_config.specs.Configuration.{plain_config}
use Rattle.due.specs.Banks.{Bank, bank_of, ordered, window_of}
use Rattle.due.proofs.StationLaws.{same_window}
use Rattle.bank_words.specs.Seen.{texts_of}
use Rattle.bank.proofs.EndingLaws.{ends_over}
use Rattle.bank.proofs.EntryLaws.{bank_in_order}
use Rattle.sweep_due.specs.SweepOwed.{told_alone}
use Rattle.sweep_due.specs.SweepPlans.{sweep_plan}
use Rattle.sweep_due.proofs.SweepDueLaws.{asked_phase}
use Rattle.sweep.specs.Certifying.{Certifies}
use Rattle.sweep.specs.Tasks.{certificates_order}
use Rattle.sweep.proofs.CertifiedLaws.{certifies_ordered}
use Rattle.sweep.proofs.CertifyLaws.{certified_ends, only_certified, unloaded_found}
use Rattle.sweep.proofs.sweep_run.certify_bank.Goals as goal

pub returns-in-Ok-clause-ends : goal.returns-in-Ok-clause-ends
returns-in-Ok-clause-ends g c =
    let words = texts_of c.args.words.now in
    let o = certificates_order c.args.certify.now in
    let old = g.F.Files.view c.args.files.now in
    let mid = g.F.Files.view c.load.new.files in
    let new = g.F.Files.view c.sweep_certified.new.files in
    let r = c.sweep_certified.result in
    let (config, logs, loaded, order) = c.in-Ok.ensures.loaded in
    let bank = bank_of config logs in
    let same = c.in_ok-bank-in-Ok.ensures.bank ∙ bank_in_order config logs (plain_config c.in-Ok.loaded.config) c.in-Ok.loaded.logs.items order in
    let here = subst (λ (b : Bank). Certifies (window_of o.asked b.receivers) b o.workers o.name mid new r) same c.sweep_certified.ensures.ends in
    let there = subst (λ (w : Window). Certifies w (ordered bank) o.workers o.name mid new r) (same_window o.asked bank.receivers) here in
    certified_ends words o c.requires.asks config logs (λ contents. c.one_thing_is_owed_of_a_sweep.ensures.some words contents) old mid new loaded c.load.ensures.only c.in-Ok.ensures.same_counts r
    (certifies_ordered (window_of o.asked bank.receivers) bank o.workers c.requires.in_range.task.asked.century (asked_phase o.asked bank) o.name mid new r there)

pub returns-in-Ok-clause-only : goal.returns-in-Ok-clause-only
returns-in-Ok-clause-only g c =
    only_certified (texts_of c.args.words.now) (certificates_order c.args.certify.now) c.requires.asks (g.F.Files.view c.args.files.now) (g.F.Files.view c.load.new.files)
    (g.F.Files.view c.sweep_certified.new.files) c.load.ensures.only c.sweep_certified.ensures.only

pub returns-clause-ends : goal.returns-clause-ends
returns-clause-ends g c =
    let words = texts_of c.args.words.now in
    let old = g.F.Files.view c.args.files.now in
    let mid = g.F.Files.view c.load.new.files in
    ends_over told_alone (sweep_plan words) old (g.F.Files.view c.perform.new.files) c.perform.result
    (c.perform.ensures.ends old
    (unloaded_found words (certificates_order c.args.certify.now) c.requires.asks old mid c.in-Err.unloaded c.not_loaded.result c.not_loaded.ensures.told c.in-Err.ensures.not_loaded c.load.ensures.only))
