-- What is due for what is to be done.
use Rattle.std.proofs.Common.{ℕ, List, ◌∙◌, subst}
use Rattle.std.proofs.lemmas.Result.{IfOk-weaker}
use Rattle.bank_config.specs.Configuration.{plain_config}
use Rattle.due.specs.declared.frame_due.FrameDue.{FrameDue}
use Rattle.due.specs.Banks.{bank_of}
use Rattle.due.specs.FrameRules.{IsToldOf}
use Rattle.due.specs.Plans.{frame_plan}
use Rattle.bank.specs.declared.loading.Unloaded.{Unloaded}
use Rattle.bank.specs.Ending.{IsFound}
use Rattle.bank.specs.Hearing.{bank_seen}
use Rattle.bank.specs.Loading.{IsNotLoaded, IsReadAs}
use Rattle.bank.proofs.EntryLaws.{bank_in_order}
use Rattle.frame_runs.specs.declared.words.FrameTask.{FrameTask}
use Rattle.frame_runs.specs.Tasks.{Asks}
use Rattle.frame_runs.proofs.FoundLaws.{answer_found, failure_found, refusal_found, text_failed, text_found}
use Rattle.frame_runs.proofs.FramedLaws.{decoded_in_order, decoded_phase}
use Rattle.frame_runs.proofs.find.find_due.Goals as goal

pub framed-requires-clause-phase : goal.framed-requires-clause-phase
framed-requires-clause-phase g c =
    decoded_phase c.in-Print.asked (bank_seen c.in_ok-bank-in-Ok.bank) c.in_ok-decoded-in-Ok.decoded c.in_ok-decoded-in-Ok.ensures.decoded

pub returns-in_ok-decoded-in-Ok-clause-due : goal.returns-in_ok-decoded-in-Ok-clause-due
returns-in_ok-decoded-in-Ok-clause-due g c = λ words asks.
    let d = c.in-Print in
    let seen = bank_seen c.in_ok-bank-in-Ok.bank in
    let is = c.in_ok-decoded-in-Ok.ensures.decoded in
    let (config, logs, loaded, order) = c.in-Ok.ensures.loaded in
    let same = c.in_ok-bank-in-Ok.ensures.bank ∙ bank_in_order config logs (plain_config c.in-Ok.loaded.config) c.in-Ok.loaded.logs.items order in
    answer_found words d.config.now d.asked (subst (λ (t : FrameTask). Asks words t) d.is asks) (g.F.Files.view c.args.files.now) config logs c.framed.result loaded
    (decoded_in_order d.asked (bank_of config logs) seen c.in_ok-decoded-in-Ok.decoded c.framed.result same is (c.framed.ensures.framed seen is.duts_are))

pub returns-in-Refused-clause-due : goal.returns-in-Refused-clause-due
returns-in-Refused-clause-due g c = λ words asks.
    let d = c.in-Print in
    let old = g.F.Files.view c.args.files.now in
    let new = g.F.Files.view c.load.new.files in
    refusal_found words d.config.now d.asked (subst (λ (t : FrameTask). Asks words t) d.is asks) old c.in-Refused.refusal
    (subst (λ (why : Unloaded). IsNotLoaded old new d.config.now why) c.in-Refused.is c.in-Err.ensures.not_loaded).0

pub returns-in-Failed-clause-failed : goal.returns-in-Failed-clause-failed
returns-in-Failed-clause-failed g c = λ e words asks.
    let d = c.in-Print in
    let old = g.F.Files.view c.args.files.now in
    let new = g.F.Files.view c.load.new.files in
    failure_found words d.config.now d.asked (subst (λ (t : FrameTask). Asks words t) d.is asks) old new
    (subst (λ (why : Unloaded). IsNotLoaded old new d.config.now why) c.in-Failed.is c.in-Err.ensures.not_loaded)

pub returns-in-Read-clause-due : goal.returns-in-Read-clause-due
returns-in-Read-clause-due g c =
    let r = c.in-Read in
    let old = g.F.Files.view c.args.files.now in
    IfOk-weaker c.read_text.result (λ (due : FrameDue). IsReadAs old r.file.now (λ bytes. IsToldOf bytes due))
    (λ (due : FrameDue). (words : List (List ℕ)) → Asks words c.args.task.now → IsFound (frame_plan words) old due)
    (λ due is words asks. text_found words r.file.now (subst (λ (t : FrameTask). Asks words t) r.is asks) old due is) c.read_text.ensures.told

pub returns-in-Read-clause-failed : goal.returns-in-Read-clause-failed
returns-in-Read-clause-failed g c = λ e words asks.
    let r = c.in-Read in
    text_failed words r.file.now (subst (λ (t : FrameTask). Asks words t) r.is asks) (g.F.Files.view c.args.files.now) (g.F.Files.view c.read_text.new.files)
    (c.read_text.ensures.failed e)
