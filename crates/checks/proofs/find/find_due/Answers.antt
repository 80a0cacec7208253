-- What is due for what is to be done.
use Rattle.std.proofs.Common.{ℕ, List, ◌∙◌, ap, refl, subst}
use Rattle.std.proofs.lemmas.Result.{err_from_is_err_and}
use Rattle.bank_config.specs.Configuration.{plain_config}
use Rattle.due.specs.declared.check_due.CheckDue.{CheckDue}
use Rattle.due.specs.Banks.{bank_of}
use Rattle.check_due.specs.CheckRules.{IsBankChecked}
use Rattle.bank_files.specs.Seen.{Seen}
use Rattle.bank_files.proofs.Chaining.{OnlyReads-then, SameCounts-then}
use Rattle.bank.specs.declared.loading.Unloaded.{Unloaded}
use Rattle.bank.specs.Hearing.{bank_seen}
use Rattle.bank.specs.Loading.{IsNotLoaded}
use Rattle.bank.proofs.EntryLaws.{bank_in_order}
use Rattle.checks.specs.Tasks.{order_seen}
use Rattle.checks.proofs.FoundLaws.{certificate_failed, failed_at_first, failure_found, judgement_found, other_error, read_at_first, refusal_found}
use Rattle.checks.proofs.OrderLaws.{checked_in_order}
use Rattle.checks.proofs.find.find_due.Goals as goal

pub returns-in_ok-due-in-Ok-clause-due : goal.returns-in_ok-due-in-Ok-clause-due
returns-in_ok-due-in-Ok-clause-due g c = λ words asks.
    let o = order_seen c.args.task.now in
    let old = g.F.Files.view c.args.files.now in
    let mid = g.F.Files.view c.load.new.files in
    let seen = bank_seen c.in_ok-bank-in-Ok.bank in
    let due = c.in_ok-due-in-Ok.due in
    let (config, logs, loaded, order) = c.in-Ok.ensures.loaded in
    let same = c.in_ok-bank-in-Ok.ensures.bank ∙ bank_in_order config logs (plain_config c.in-Ok.loaded.config) c.in-Ok.loaded.logs.items order in
    let (bytes, found, told) = c.in_ok-due-in-Ok.ensures.checked in
    judgement_found words o asks old config logs due loaded
    (read_at_first old mid o.certificate (λ bs. IsBankChecked o (bank_of config logs) bs due) c.load.ensures.only.told
    (bytes, found, checked_in_order o (bank_of config logs) seen bytes due same told))

pub returns-in-Refused-clause-due : goal.returns-in-Refused-clause-due
returns-in-Refused-clause-due g c = λ words asks.
    let old = g.F.Files.view c.args.files.now in
    let new = g.F.Files.view c.load.new.files in
    refusal_found words (order_seen c.args.task.now) asks old c.in-Refused.refusal
    (subst (λ (why : Unloaded). IsNotLoaded old new c.args.task.now.config.now why) c.in-Refused.is c.in-Err.ensures.not_loaded).0

pub returns-in-Failed-clause-failed : goal.returns-in-Failed-clause-failed
returns-in-Failed-clause-failed g c = λ e words asks.
    let old = g.F.Files.view c.args.files.now in
    let new = g.F.Files.view c.load.new.files in
    failure_found words (order_seen c.args.task.now) asks old new
    (subst (λ (why : Unloaded). IsNotLoaded old new c.args.task.now.config.now why) c.in-Failed.is c.in-Err.ensures.not_loaded)

pub returns-in_err-due-in-Ok-clause-failed : goal.returns-in_err-due-in-Ok-clause-failed
returns-in_err-due-in-Ok-clause-failed g c = λ e words asks.
    let o = order_seen c.args.task.now in
    let old = g.F.Files.view c.args.files.now in
    let mid = g.F.Files.view c.load.new.files in
    let new = g.F.Files.view c.check_bank.new.files in
    let (config, logs, loaded, order) = c.in-Ok.ensures.loaded in
    let p = err_from_is_err_and c.from_residual-in_err-due-in-Ok.result c.from_residual-in_err-due-in-Ok.ensures.1 in
    certificate_failed words o asks old new config logs loaded
    (failed_at_first old mid new o.certificate c.in-Ok.ensures.same_counts (c.in_err-due-in-Ok.ensures.failed (other_error _ _ (rw (p.1, p.2) at e))))
