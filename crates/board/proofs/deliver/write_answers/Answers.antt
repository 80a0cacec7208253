-- The answers of askers, and then those by all entries.
use Rattle.std.proofs.lemmas.Result.{err_from_is_err_and}
use Rattle.bank_files.specs.Told.{output_name}
use Rattle.bank_files.proofs.Chaining.{Writes-failed, Writes-then}
use Rattle.board_due.specs.BoardAnswers.{at_lines, live_lines}
use Rattle.board.proofs.deliver.write_answers.Goals as goal

pub write_live_lines-requires : goal.write_live_lines-requires
write_live_lines-requires g c = rw (c.as_slice-entries.ensures, c.as_slice-queries.ensures, c.as_slice-counts.ensures) c.requires

pub returns-in_err-write_live_lines : goal.returns-in_err-write_live_lines
returns-in_err-write_live_lines g c =
    let p = err_from_is_err_and c.from_residual.result c.from_residual.ensures.1 in
    rw p.1
    (Writes-failed output_name (g.F.Files.view c.args.files.now) (g.F.Files.view c.write_live_lines.new.files)
    (live_lines c.args.entries.now c.args.queries.now c.args.counts.now) (at_lines c.args.entries.now c.args.queries.now)
    c.in_err-write_live_lines.field-0.0
    (rw (c.as_slice-entries.ensures, c.as_slice-queries.ensures, c.as_slice-counts.ensures) at c.in_err-write_live_lines.ensures))

pub returns : goal.returns
returns g c =
    Writes-then output_name (g.F.Files.view c.args.files.now) (g.F.Files.view c.write_live_lines.new.files) (g.F.Files.view c.write_at_lines.new.files)
    (live_lines c.args.entries.now c.args.queries.now c.args.counts.now) (at_lines c.args.entries.now c.args.queries.now) c.write_at_lines.result
    (rw (c.as_slice-entries.ensures, c.as_slice-queries.ensures, c.as_slice-counts.ensures) at c.in_ok-write_live_lines.ensures)
    (rw (c.as_slice-entries.ensures, c.as_slice-queries.ensures) at c.write_at_lines.ensures)
