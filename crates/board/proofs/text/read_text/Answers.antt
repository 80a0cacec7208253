-- What is told of the bytes that were read is told of the file, or it is too large.
use Rattle.std.proofs.Common.{Err, ap}
use Rattle.board_due.specs.declared.queries.TheConstants.{QUERIES_LIMIT}
use Rattle.bank.proofs.ReadingLaws.{large_bytes, read_is}
use Rattle.board.proofs.TextLaws.{told_of_file}
use Rattle.board.proofs.text.read_text.Goals as goal

pub returns-in-Ok-clause-told : goal.returns-in-Ok-clause-told
returns-in-Ok-clause-told g c =
    let old = g.F.Files.view c.args.files.now in
    let file = c.args.file.now in
    told_of_file old file c.in-Ok.bytes.items c.as_slice.result.now c.told_of.result c.as_slice.ensures.value
    (read_is (old.told file) c.in-Ok.bytes.items QUERIES_LIMIT c.in-Ok.ensures.whole) c.told_of.ensures.told

pub returns-in-Err-TooLarge-clause-told : goal.returns-in-Err-TooLarge-clause-told
returns-in-Err-TooLarge-clause-told g c =
    let old = g.F.Files.view c.args.files.now in
    large_bytes QUERIES_LIMIT (old.told c.args.file.now) (c.in-Err-TooLarge.ensures.too_large (ap Err c.in-Err-TooLarge.field-0-is))
