-- One answer after the other.
use Rattle.std.proofs.Common.{◌<◌, ◌+◌, length, map, take, drop, arith}
use Rattle.std.proofs.lemmas.List.{take_all, length-map}
use Rattle.std.proofs.lemmas.Result.{err_from_is_err_and}
use Rattle.bank_files.specs.Told.{output_name}
use Rattle.bank_files.proofs.Chaining.{Writes-start}
use Rattle.board_entries.specs.Plain.{plain}
use Rattle.board_due.specs.BoardAnswers.{live_lines}
use Rattle.board.proofs.WriteLaws.{live_more, live_of, live_rest, piece_fails, piece_goes_on}
use Rattle.board.proofs.deliver.write_live_lines.Goals as goal

pub loop-i-init : goal.loop-i-init
loop-i-init g c = Writes-start output_name (g.F.Files.view c.args.files.now) (g.met.F.Files.output_is_there c.args.files.now)

pub write_live_line-requires : goal.write_live_line-requires
write_live_line-requires g c =
    let i = c.loop-i.i in
    let within : i < length c.args.counts.now = omega (arith, c.loop-i-test.true, c.requires.each) in
    omega (arith, c.number_at.ensures, c.requires.most i within, length-map c.args.entries.now plain)

pub returns-in_err-write_live_line : goal.returns-in_err-write_live_line
returns-in_err-write_live_line g c =
    let p = err_from_is_err_and c.from_residual.result c.from_residual.ensures.1 in
    let es = map plain c.args.entries.now in
    let qs = c.args.queries.now in
    let ns = c.args.counts.now in
    let i = c.loop-i.i in
    let ms = c.number_at-ms.result in
    let n = c.number_at.result in
    let within : i < length ns = omega (arith, c.loop-i-test.true, c.requires.each) in
    rw p.1
    (piece_fails (g.F.Files.view c.args.files.now) (g.F.Files.view c.loop-i.files) (g.F.Files.view c.write_live_line.new.files)
    (live_lines es (take i qs) (take i ns)) (live_of es ms n) (live_lines es (drop (i + 1) qs) (drop (i + 1) ns))
    (live_lines es (take (i + 1) qs) (take (i + 1) ns)) (live_lines es qs ns)
    (live_more es qs ns i ms n c.loop-i-test.true within c.number_at-ms.ensures
    c.number_at.ensures)
    (live_rest es qs ns (i + 1) c.requires.each) c.loop-i.invariant
    c.in_err-write_live_line.field-0.0 c.in_err-write_live_line.ensures)

pub loop-i-preserved : goal.loop-i-preserved
loop-i-preserved g c =
    let es = map plain c.args.entries.now in
    let qs = c.args.queries.now in
    let ns = c.args.counts.now in
    let i = c.loop-i.i in
    let ms = c.number_at-ms.result in
    let n = c.number_at.result in
    let within : i < length ns = omega (arith, c.loop-i-test.true, c.requires.each) in
    piece_goes_on (g.F.Files.view c.args.files.now) (g.F.Files.view c.loop-i.files) (g.F.Files.view c.write_live_line.new.files)
    (live_lines es (take i qs) (take i ns)) (live_of es ms n) (live_lines es (drop (i + 1) qs) (drop (i + 1) ns))
    (live_lines es (take (i + 1) qs) (take (i + 1) ns)) (live_lines es qs ns)
    (live_more es qs ns i ms n c.loop-i-test.true within c.number_at-ms.ensures
    c.number_at.ensures)
    (live_rest es qs ns (i + 1) c.requires.each) c.loop-i.invariant
    c.in_ok-write_live_line.ensures

pub returns : goal.returns
returns g c =
    let queries = take_all c.loop-i.i c.args.queries.now (omega arith) in
    let counts = take_all c.loop-i.i c.args.counts.now (omega (arith, c.requires.each)) in
    rw (queries, counts) at c.loop-i.invariant
