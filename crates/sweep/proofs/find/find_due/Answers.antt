-- What is due for what is to be done.
use Rattle.std.proofs.Common.{◌∙◌, subst}
use Rattle.bank_config.specs.Configuration.{plain_config}
use Rattle.due.specs.Banks.{bank_of}
use Rattle.bank.specs.declared.loading.Unloaded.{Unloaded}
use Rattle.bank.specs.Hearing.{bank_seen}
use Rattle.bank.specs.Loading.{IsNotLoaded}
use Rattle.bank.proofs.EntryLaws.{bank_in_order}
use Rattle.sweep.specs.Tasks.{order_seen}
use Rattle.sweep.proofs.SweptLaws.{swept_in_order}
use Rattle.sweep.proofs.FoundLaws.{answer_found, failure_found, refusal_found}
use Rattle.sweep.proofs.find.find_due.Goals as goal

pub returns-in_ok-due-in-Ok-clause-due : goal.returns-in_ok-due-in-Ok-clause-due
returns-in_ok-due-in-Ok-clause-due g c = λ words asks.
    let o = order_seen c.args.task.now in
    let seen = bank_seen c.in_ok-bank-in-Ok.bank in
    let (config, logs, loaded, order) = c.in-Ok.ensures.loaded in
    let same = c.in_ok-bank-in-Ok.ensures.bank ∙ bank_in_order config logs (plain_config c.in-Ok.loaded.config) c.in-Ok.loaded.logs.items order in
    answer_found words o asks.0 asks.1 (g.F.Files.view c.args.files.now) config logs c.in_ok-due-in-Ok.due loaded
    (swept_in_order o (bank_of config logs) seen c.in_ok-due-in-Ok.due same c.in_ok-due-in-Ok.ensures.swept)

pub returns-in-Refused-clause-due : goal.returns-in-Refused-clause-due
returns-in-Refused-clause-due g c = λ words asks.
    let old = g.F.Files.view c.args.files.now in
    let new = g.F.Files.view c.load.new.files in
    refusal_found words (order_seen c.args.task.now) asks.0 asks.1 old c.in-Refused.refusal
    (subst (λ (why : Unloaded). IsNotLoaded old new c.args.task.now.config.now why) c.in-Refused.is c.in-Err.ensures.not_loaded).0

pub returns-in-Failed-clause-failed : goal.returns-in-Failed-clause-failed
returns-in-Failed-clause-failed g c = λ e words asks.
    let old = g.F.Files.view c.args.files.now in
    let new = g.F.Files.view c.load.new.files in
    failure_found words (order_seen c.args.task.now) asks.0 old new
    (subst (λ (why : Unloaded). IsNotLoaded old new c.args.task.now.config.now why) c.in-Failed.is c.in-Err.ensures.not_loaded)
