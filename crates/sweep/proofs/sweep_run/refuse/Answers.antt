-- Refused words are due to be refused, whatever the files hold.
use Rattle.std.proofs.Common.{Err, Ok, subst}
use Rattle.std.proofs.lemmas.Result.{err_from_is_err_and}
use Rattle.due.specs.declared.status.Status.{Status}
use Rattle.sweep_due.specs.SweepPlans.{sweep_plan}
use Rattle.bank_words.specs.Seen.{texts_of}
use Rattle.bank.specs.Ending.{Ends}
use Rattle.bank.proofs.RefusalLaws.{words_status}
use Rattle.sweep.proofs.RefusalLaws.{only_refused, words_not_refused, words_refused}
use Rattle.sweep.proofs.sweep_run.refuse.Goals as goal

pub returns-in_err-write_refusal-clause-ends : goal.returns-in_err-write_refusal-clause-ends
returns-in_err-write_refusal-clause-ends g c =
    let p = err_from_is_err_and c.from_residual.result c.from_residual.ensures.1 in
    rw (p.1, p.2) (words_not_refused (g.F.Files.view c.args.files.now) (g.F.Files.view c.write_refusal.new.files) (texts_of c.args.words.now) c.args.fault
    c.in_err-write_refusal.field-0.0 c.requires (rw c.word_refusal.ensures at c.in_err-write_refusal.ensures))

pub returns-clause-ends : goal.returns-clause-ends
returns-clause-ends g c =
    let old = g.F.Files.view c.args.files.now in
    let new = g.F.Files.view c.write_refusal.new.files in
    let words = texts_of c.args.words.now in
    subst (λ (status : Status). Ends (sweep_plan words) old new (Ok status)) (words_status c.args.fault)
    (words_refused old new words c.args.fault c.requires (rw c.word_refusal.ensures at c.in_ok-write_refusal.ensures))

pub returns-in_err-write_refusal-clause-only : goal.returns-in_err-write_refusal-clause-only
returns-in_err-write_refusal-clause-only g c =
    only_refused (g.F.Files.view c.args.files.now) (g.F.Files.view c.write_refusal.new.files) (texts_of c.args.words.now) c.args.fault (Err c.in_err-write_refusal.field-0.0)
    (rw c.word_refusal.ensures at c.in_err-write_refusal.ensures)

pub returns-clause-only : goal.returns-clause-only
returns-clause-only g c =
    only_refused (g.F.Files.view c.args.files.now) (g.F.Files.view c.write_refusal.new.files) (texts_of c.args.words.now) c.args.fault (Ok tt) (rw c.word_refusal.ensures at c.in_ok-write_refusal.ensures)
