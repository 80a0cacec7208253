-- What is due for what is asked.
use Rattle.std.proofs.Common.{ℕ, List, ◌∙◌, subst}
use Rattle.std.proofs.lemmas.Result.{IfOk-weaker}
use Rattle.bank_config.specs.Configuration.{plain_config}
use Rattle.due.specs.declared.due.Due.{Due}
use Rattle.due.specs.Banks.{bank_of, ordered}
use Rattle.due.specs.Orders.{BankOrder}
use Rattle.bank.specs.declared.loading.Unloaded.{Unloaded}
use Rattle.bank.specs.declared.words.Task.{Task}
use Rattle.bank.specs.Ending.{IsFound, over}
use Rattle.bank.specs.Finding.{IsTried}
use Rattle.due.specs.Owed.{told_alone}
use Rattle.due.specs.Plans.{run_plan}
use Rattle.bank.specs.Hearing.{bank_seen}
use Rattle.bank.specs.Loading.{IsNotLoaded}
use Rattle.bank.specs.Tasks.{Asks, wanted_seen}
use Rattle.bank.proofs.EntryLaws.{bank_in_order, reported_in_order}
use Rattle.bank.proofs.FindingLaws.{answer_found, failure_found, is_alone, listing_found, refusal_found, trial_found}
use Rattle.bank.proofs.RunLaws.{decoded_reported}
use Rattle.bank.proofs.find.find_due.Goals as goal

pub returns-in-List-clause-due : goal.returns-in-List-clause-due
returns-in-List-clause-due g c = λ words asks.
    let l = c.in-List in
    listing_found (g.F.Files.view c.args.files.now) words l.station l.minute l.announced (subst (λ (t : Task). Asks words t) l.is asks)

pub returns-in-Try-clause-due : goal.returns-in-Try-clause-due
returns-in-Try-clause-due g c =
    let t = c.in-Try in
    let old = g.F.Files.view c.args.files.now in
    IfOk-weaker c.trial_due.result (IsTried t.number) (λ (due : Due). (words : List (List ℕ)) → Asks words c.args.task.now → IsFound (over told_alone (run_plan words)) old due)
    (λ due is words asks. trial_found old words t.number t.workers due (subst (λ (task : Task). Asks words task) t.is asks) is) c.trial_due.ensures.due

pub returns-in_ok-decoded-in-Ok-clause-due : goal.returns-in_ok-decoded-in-Ok-clause-due
returns-in_ok-decoded-in-Ok-clause-due g c = λ words asks.
    let d = c.in-Decode in
    let o : BankOrder = record { config = d.config.now; asked = d.asked; wanted = wanted_seen d.wanted } in
    let seen = bank_seen c.in_ok-bank-in-Ok.bank in
    let is = c.in_ok-decoded-in-Ok.ensures.decoded in
    let (config, logs, loaded, order) = c.in-Ok.ensures.loaded in
    let same = c.in_ok-bank-in-Ok.ensures.bank ∙ bank_in_order config logs (plain_config c.in-Ok.loaded.config) c.in-Ok.loaded.logs.items order in
    answer_found words o (subst (λ (t : Task). Asks words t) d.is asks) (is_alone d.wanted) (g.F.Files.view c.args.files.now) config logs c.reported.result loaded
    (reported_in_order o (bank_of config logs) c.reported.result
    (decoded_reported o (ordered (bank_of config logs)) seen c.in_ok-decoded-in-Ok.decoded c.reported.result same is (c.reported.ensures.reported seen is.duts_are)))

pub returns-in-Refused-clause-due : goal.returns-in-Refused-clause-due
returns-in-Refused-clause-due g c = λ words asks.
    let d = c.in-Decode in
    let old = g.F.Files.view c.args.files.now in
    let new = g.F.Files.view c.load.new.files in
    refusal_found words (record { config = d.config.now; asked = d.asked; wanted = wanted_seen d.wanted }) (subst (λ (t : Task). Asks words t) d.is asks) (is_alone d.wanted) old c.in-Refused.refusal
    (subst (λ (why : Unloaded). IsNotLoaded old new d.config.now why) c.in-Refused.is c.in-Err.ensures.not_loaded).0

pub returns-in-Failed-clause-failed : goal.returns-in-Failed-clause-failed
returns-in-Failed-clause-failed g c = λ e words asks.
    let d = c.in-Decode in
    let old = g.F.Files.view c.args.files.now in
    let new = g.F.Files.view c.load.new.files in
    failure_found words (record { config = d.config.now; asked = d.asked; wanted = wanted_seen d.wanted }) (subst (λ (t : Task). Asks words t) d.is asks) old new
    (subst (λ (why : Unloaded). IsNotLoaded old new d.config.now why) c.in-Failed.is c.in-Err.ensures.not_loaded)
