-- The entries are those of the decided windows, and the numbers may be.
use Rattle.std.proofs.Common.{map, refl, subst, sym}
use Rattle.board_entries.specs.Plain.{plain}
use Rattle.bank.specs.Hearing.{bank_seen}
use Rattle.board_due.specs.declared.board_due.BoardDue.{BoardDue}
use Rattle.board_due.specs.BoardRules.{IsAnswered}
use Rattle.board_due.specs.Queries.QueriesTold.{Read}
use Rattle.board.specs.Finding.{CanBeWritten}
use Rattle.board.specs.Tasks.{order_seen}
use Rattle.board.proofs.AnswerLaws.{answers_can, answers_due}
use Rattle.board.proofs.answers.answer_queries.Goals as goal

pub returns-clause-answered : goal.returns-clause-answered
returns-clause-answered g c =
    let o = order_seen c.args.task.now in
    let bank = bank_seen c.args.bank.now in
    let kept = c.in_ok-entries.entries.items in
    let counts = c.in_ok-counts.counts.items in
    let fit = rw (c.as_slice.ensures.value, c.as_slice-asked.ensures) at c.in_ok-counts.ensures.counts in
    subst (λ (due : BoardDue). IsAnswered o bank (Read c.args.queries) due) (sym c.answers_of.ensures)
    (answers_due kept (map plain kept) c.args.queries counts counts refl refl o bank c.args.first.now c.requires.first c.in_ok-entries.ensures.published fit)

pub returns-clause-can_be_written : goal.returns-clause-can_be_written
returns-clause-can_be_written g c =
    let kept = c.in_ok-entries.entries.items in
    let counts = c.in_ok-counts.counts.items in
    let fit = rw (c.as_slice.ensures.value, c.as_slice-asked.ensures) at c.in_ok-counts.ensures.counts in
    subst (λ (due : BoardDue). CanBeWritten due) (sym c.answers_of.ensures)
    (answers_can kept (map plain kept) c.args.queries counts counts refl refl c.args.task.now.readers fit)
