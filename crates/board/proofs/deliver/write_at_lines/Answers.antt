-- One answer after the other.
use Rattle.std.proofs.Common.{map, take, drop, ◌+◌, arith}
use Rattle.std.proofs.lemmas.List.{take_all}
use Rattle.std.proofs.lemmas.Result.{err_from_is_err_and}
use Rattle.bank_files.specs.Told.{output_name}
use Rattle.bank_files.proofs.Chaining.{Writes-start}
use Rattle.board_entries.specs.Plain.{plain}
use Rattle.board_due.specs.BoardAnswers.{at_lines}
use Rattle.board.proofs.WriteLaws.{at_more, at_of, at_rest, piece_fails, piece_goes_on}
use Rattle.board.proofs.deliver.write_at_lines.Goals as goal

pub loop-i-init : goal.loop-i-init
loop-i-init g c = Writes-start output_name (g.F.Files.view c.args.files.now) (g.met.F.Files.output_is_there c.args.files.now)

pub returns-in_err-write_at_line : goal.returns-in_err-write_at_line
returns-in_err-write_at_line g c =
    let p = err_from_is_err_and c.from_residual.result c.from_residual.ensures.1 in
    let es = map plain c.args.entries.now in
    let qs = c.args.queries.now in
    let i = c.loop-i.i in
    let ms = c.number_at.result in
    rw p.1
    (piece_fails (g.F.Files.view c.args.files.now) (g.F.Files.view c.loop-i.files) (g.F.Files.view c.write_at_line.new.files)
    (at_lines es (take i qs)) (at_of es ms) (at_lines es (drop (i + 1) qs)) (at_lines es (take (i + 1) qs)) (at_lines es qs)
    (at_more es qs i ms c.loop-i-test.true c.number_at.ensures) (at_rest es qs (i + 1)) c.loop-i.invariant
    c.in_err-write_at_line.field-0.0 c.in_err-write_at_line.ensures)

pub loop-i-preserved : goal.loop-i-preserved
loop-i-preserved g c =
    let es = map plain c.args.entries.now in
    let qs = c.args.queries.now in
    let i = c.loop-i.i in
    let ms = c.number_at.result in
    piece_goes_on (g.F.Files.view c.args.files.now) (g.F.Files.view c.loop-i.files) (g.F.Files.view c.write_at_line.new.files)
    (at_lines es (take i qs)) (at_of es ms) (at_lines es (drop (i + 1) qs)) (at_lines es (take (i + 1) qs)) (at_lines es qs)
    (at_more es qs i ms c.loop-i-test.true c.number_at.ensures) (at_rest es qs (i + 1)) c.loop-i.invariant
    c.in_ok-write_at_line.ensures

pub returns : goal.returns
returns g c =
    let all = take_all c.loop-i.i c.args.queries.now (omega arith) in
    rw all at c.loop-i.invariant
