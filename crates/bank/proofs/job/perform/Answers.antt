-- What was found due is delivered, or as much of it as could be written.
use Rattle.std.proofs.lemmas.Result.{err_from_is_err_and}
use Rattle.bank.proofs.EndingLaws.{due_is_not_written, due_is_written, only_written, stops}
use Rattle.bank.proofs.job.perform.Goals as goal

pub returns-in_err-due-clause-ends : goal.returns-in_err-due-clause-ends
returns-in_err-due-clause-ends g c = λ old finds.
    let p = err_from_is_err_and c.from_residual.result c.from_residual.ensures.1 in
    rw (p.1, p.2) (stops (g.J.Job.plan c.args.job.now) old (g.F.Files.view c.args.files.now) c.args.found finds c.in_err-due.field-0.0 c.in_err-due.was)

pub returns-in_err-deliver-clause-ends : goal.returns-in_err-deliver-clause-ends
returns-in_err-deliver-clause-ends g c = λ old finds.
    let p = err_from_is_err_and c.from_residual-in_err-deliver.result c.from_residual-in_err-deliver.ensures.1 in
    rw (p.1, p.2) (due_is_not_written (g.J.Job.plan c.args.job.now) old (g.F.Files.view c.args.files.now) c.args.found finds (g.F.Files.view c.deliver.new.files) c.in_ok-due.due
    c.in_err-deliver.field-0.0 c.in_ok-due.was c.in_err-deliver.ensures)

pub returns-in_err-deliver-clause-only : goal.returns-in_err-deliver-clause-only
returns-in_err-deliver-clause-only g c = λ old only.
    only_written (g.J.Job.plan c.args.job.now) old (g.F.Files.view c.args.files.now) (g.F.Files.view c.deliver.new.files) c.in_ok-due.due _ only c.in_err-deliver.ensures

pub returns-clause-ends : goal.returns-clause-ends
returns-clause-ends g c = λ old finds.
    rw c.status.ensures
    (due_is_written (g.J.Job.plan c.args.job.now) old (g.F.Files.view c.args.files.now) c.args.found finds (g.F.Files.view c.deliver.new.files) c.in_ok-due.due c.in_ok-due.was c.in_ok-deliver.ensures)

pub returns-clause-only : goal.returns-clause-only
returns-clause-only g c = λ old only.
    only_written (g.J.Job.plan c.args.job.now) old (g.F.Files.view c.args.files.now) (g.F.Files.view c.deliver.new.files) c.in_ok-due.due _ only c.in_ok-deliver.ensures
