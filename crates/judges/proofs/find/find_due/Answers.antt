-- What is due for what is to be done.
use Rattle.std.proofs.Common.{◌∙◌, subst}
use Rattle.std.proofs.lemmas.Result.{err_from_is_err_and}
use Rattle.bank_config.specs.Configuration.{plain_config}
use Rattle.bank_files.specs.Seen.{Seen}
use Rattle.bank_files.proofs.Chaining.{Seen-same}
use Rattle.due.specs.Banks.{bank_of}
use Rattle.bank.specs.declared.loading.Unloaded.{Unloaded}
use Rattle.bank.specs.Hearing.{bank_seen}
use Rattle.bank.specs.Loading.{IsNotLoaded}
use Rattle.bank.proofs.EntryLaws.{bank_in_order}
use Rattle.checks.proofs.FoundLaws.{other_error}
use Rattle.judges.specs.Judging.{FailsBank, IsBankFound}
use Rattle.judges.specs.Tasks.{order_seen}
use Rattle.judges.proofs.FoundLaws.{certificate_failed, failure_found, judgement_found, refusal_found}
use Rattle.judges.proofs.OrderLaws.{fails_in_order, found_in_order}
use Rattle.judges.proofs.find.find_due.Goals as goal

pub returns-in_ok-owed-in-Ok-clause-due : goal.returns-in_ok-owed-in-Ok-clause-due
returns-in_ok-owed-in-Ok-clause-due g c = λ words asks.
    let o = order_seen c.args.task.now in
    let old = g.F.Files.view c.args.files.now in
    let mid = g.F.Files.view c.load.new.files in
    let owed = c.in_ok-owed-in-Ok.owed in
    let (config, logs, loaded, order) = c.in-Ok.ensures.loaded in
    let same = c.in_ok-bank-in-Ok.ensures.bank ∙ bank_in_order config logs (plain_config c.in-Ok.loaded.config) c.in-Ok.loaded.logs.items order in
    let found = subst (λ (s : Seen). IsBankFound s o (bank_seen c.in_ok-bank-in-Ok.bank) owed) (Seen-same old mid c.load.ensures.only c.in-Ok.ensures.same_counts) c.in_ok-owed-in-Ok.ensures.found in
    judgement_found words o asks old config logs owed loaded (found_in_order old o (bank_of config logs) (bank_seen c.in_ok-bank-in-Ok.bank) owed same found)

pub returns-in-Refused-clause-due : goal.returns-in-Refused-clause-due
returns-in-Refused-clause-due g c = λ words asks.
    let old = g.F.Files.view c.args.files.now in
    let new = g.F.Files.view c.load.new.files in
    refusal_found words (order_seen c.args.task.now) asks old c.in-Refused.refusal
    (subst (λ (why : Unloaded). IsNotLoaded old new c.args.task.now.config.now why) c.in-Refused.is c.in-Err.ensures.not_loaded).0

pub returns-in-Failed-clause-failed : goal.returns-in-Failed-clause-failed
returns-in-Failed-clause-failed g c = λ e words asks.
    let old = g.F.Files.view c.args.files.now in
    let new = g.F.Files.view c.load.new.files in
    failure_found words (order_seen c.args.task.now) asks old new
    (subst (λ (why : Unloaded). IsNotLoaded old new c.args.task.now.config.now why) c.in-Failed.is c.in-Err.ensures.not_loaded)

pub returns-in_err-owed-in-Ok-clause-failed : goal.returns-in_err-owed-in-Ok-clause-failed
returns-in_err-owed-in-Ok-clause-failed g c = λ e words asks.
    let o = order_seen c.args.task.now in
    let old = g.F.Files.view c.args.files.now in
    let mid = g.F.Files.view c.load.new.files in
    let new = g.F.Files.view c.judge_bank.new.files in
    let seen = bank_seen c.in_ok-bank-in-Ok.bank in
    let (config, logs, loaded, order) = c.in-Ok.ensures.loaded in
    let same = c.in_ok-bank-in-Ok.ensures.bank ∙ bank_in_order config logs (plain_config c.in-Ok.loaded.config) c.in-Ok.loaded.logs.items order in
    let p = err_from_is_err_and c.from_residual-in_err-owed-in-Ok.result c.from_residual-in_err-owed-in-Ok.ensures.1 in
    let fails = c.in_err-owed-in-Ok.ensures.failed (other_error _ _ (rw (p.1, p.2) at e)) in
    let from_first = subst (λ (s : Seen). FailsBank s new o seen) (Seen-same old mid c.load.ensures.only c.in-Ok.ensures.same_counts) fails in
    certificate_failed words o asks old new config logs loaded (fails_in_order old o (bank_of config logs) new seen same from_first)
