-- What is due for what is to be done.
use Rattle.std.proofs.Common.{ℕ, List, ◌∙◌, subst}
use Rattle.std.proofs.lemmas.Result.{IfOk-weaker}
use Rattle.bank_files.specs.Seen.{ReadFails, Seen}
use Rattle.bank_files.proofs.Chaining.{Seen-same}
use Rattle.bank_config.specs.Configuration.{plain_config}
use Rattle.due.specs.Banks.{bank_of}
use Rattle.bank.specs.declared.loading.Unloaded.{Unloaded}
use Rattle.bank.specs.Ending.{IsFound}
use Rattle.bank.specs.Hearing.{bank_seen}
use Rattle.bank.specs.Loading.{IsNotLoaded}
use Rattle.bank.proofs.EntryLaws.{bank_in_order}
use Rattle.board_due.specs.declared.board_due.BoardDue.{BoardDue}
use Rattle.board_due.specs.BoardPlans.{board_plan}
use Rattle.board.specs.Asking.{IsBoardedBy}
use Rattle.board.specs.Tasks.{Asks, order_seen}
use Rattle.board.proofs.BoardedLaws.{boarded_in_order, in_time_in_order}
use Rattle.board.proofs.FoundLaws.{due_found, failure_found, queries_failed, refusal_found}
use Rattle.board.proofs.find.find_due.Goals as goal

pub returns-in_ok-bank-in-Ok-clause-due : goal.returns-in_ok-bank-in-Ok-clause-due
returns-in_ok-bank-in-Ok-clause-due g c =
    let o = order_seen c.args.task.now in
    let old = g.F.Files.view c.args.files.now in
    let mid = g.F.Files.view c.load.new.files in
    let seen = bank_seen c.in_ok-bank-in-Ok.bank in
    let (config, logs, loaded, order) = c.in-Ok.ensures.loaded in
    let same = c.in_ok-bank-in-Ok.ensures.bank ∙ bank_in_order config logs (plain_config c.in-Ok.loaded.config) c.in-Ok.loaded.logs.items order in
    let same_files = Seen-same old mid c.load.ensures.only c.in-Ok.ensures.same_counts in
    IfOk-weaker c.find_of_bank.result (IsBoardedBy o seen mid)
    (λ (due : BoardDue). (words : List (List ℕ)) → Asks words c.args.task.now → IsFound (board_plan words) old due)
    (λ due is words asks.
    due_found words o asks old config logs due loaded
    (boarded_in_order o (bank_of config logs) seen old due same (subst (λ (s : Seen). IsBoardedBy o seen s due) same_files is)))
    c.find_of_bank.ensures.boarded

pub returns-in_ok-bank-in-Ok-clause-failed : goal.returns-in_ok-bank-in-Ok-clause-failed
returns-in_ok-bank-in-Ok-clause-failed g c = λ e words asks.
    let o = order_seen c.args.task.now in
    let old = g.F.Files.view c.args.files.now in
    let mid = g.F.Files.view c.load.new.files in
    let new = g.F.Files.view c.find_of_bank.new.files in
    let seen = bank_seen c.in_ok-bank-in-Ok.bank in
    let (config, logs, loaded, order) = c.in-Ok.ensures.loaded in
    let same = c.in_ok-bank-in-Ok.ensures.bank ∙ bank_in_order config logs (plain_config c.in-Ok.loaded.config) c.in-Ok.loaded.logs.items order in
    let same_files = Seen-same old mid c.load.ensures.only c.in-Ok.ensures.same_counts in
    let fails = c.find_of_bank.ensures.failed e in
    queries_failed words o asks old new config logs loaded (in_time_in_order o (bank_of config logs) seen same fails.0)
    (subst (λ (s : Seen). ReadFails o.queries s new) same_files fails.1)

pub returns-in-Refused-clause-due : goal.returns-in-Refused-clause-due
returns-in-Refused-clause-due g c = λ words asks.
    let old = g.F.Files.view c.args.files.now in
    let new = g.F.Files.view c.load.new.files in
    refusal_found words (order_seen c.args.task.now) asks old c.in-Refused.refusal
    (subst (λ (why : Unloaded). IsNotLoaded old new c.args.task.now.config.now why) c.in-Refused.is c.in-Err.ensures.not_loaded).0

pub returns-in-Failed-clause-failed : goal.returns-in-Failed-clause-failed
returns-in-Failed-clause-failed g c = λ e words asks.
    let old = g.F.Files.view c.args.files.now in
    let new = g.F.Files.view c.load.new.files in
    failure_found words (order_seen c.args.task.now) asks old new
    (subst (λ (why : Unloaded). IsNotLoaded old new c.args.task.now.config.now why) c.in-Failed.is c.in-Err.ensures.not_loaded)
