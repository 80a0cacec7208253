-- What is due for what is asked.
use Rattle.std.proofs.Common.{ℕ, List, subst}
use Rattle.std.proofs.lemmas.Result.{IfOk-weaker}
use Rattle.bank_config.specs.Configuration.{plain_config}
use Rattle.due.specs.declared.heard_due.HeardDue.{HeardDue}
use Rattle.due.specs.Banks.{bank_of}
use Rattle.due.specs.HeardRuns.{AsksHeard}
use Rattle.bank.specs.declared.loading.Unloaded.{Unloaded}
use Rattle.bank.specs.Ending.{IsFound}
use Rattle.bank.specs.Loading.{IsNotLoaded}
use Rattle.heard.specs.Asking.{asked_seen}
use Rattle.heard.specs.declared.hearing.Hearing.{Hearing}
use Rattle.heard.specs.Seen.{IsShownFor, due_seen, kept_plan}
use Rattle.heard.proofs.FindingLaws.{failure_found, refusal_found, shown_found}
use Rattle.heard.proofs.find.find_due.Goals as goal

pub returns-in-Ok-clause-due : goal.returns-in-Ok-clause-due
returns-in-Ok-clause-due g c =
    let o = asked_seen c.args.ask.now in
    let old = g.F.Files.view c.args.files.now in
    let config = plain_config c.in-Ok.read.0 in
    let logs = c.in-Ok.read.1.items in
    IfOk-weaker c.show.result (λ (due : HeardDue Hearing). IsShownFor o.asked (bank_of config logs) (due_seen due))
    (λ (due : HeardDue Hearing). (words : List (List ℕ)) → AsksHeard words o → IsFound (kept_plan words) old due)
    (λ due is words asks. shown_found words o asks old config logs due c.in-Ok.ensures.loaded is) c.show.ensures.shown

pub returns-in-Refused-clause-due : goal.returns-in-Refused-clause-due
returns-in-Refused-clause-due g c = λ words asks.
    let o = asked_seen c.args.ask.now in
    let old = g.F.Files.view c.args.files.now in
    let new = g.F.Files.view c.load_as_configured.new.files in
    refusal_found words o asks old c.in-Refused.refusal (subst (λ (why : Unloaded). IsNotLoaded old new o.config why) c.in-Refused.is c.in-Err.ensures.not_loaded).0

pub returns-in-Failed-clause-failed : goal.returns-in-Failed-clause-failed
returns-in-Failed-clause-failed g c = λ e words asks.
    let o = asked_seen c.args.ask.now in
    let old = g.F.Files.view c.args.files.now in
    let new = g.F.Files.view c.load_as_configured.new.files in
    failure_found words o asks old new (subst (λ (why : Unloaded). IsNotLoaded old new o.config why) c.in-Failed.is c.in-Err.ensures.not_loaded)
