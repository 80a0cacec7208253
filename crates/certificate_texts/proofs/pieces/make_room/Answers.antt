-- What was held back is written, or a front of it.
use Rattle.std.proofs.Common.{rules}
use Rattle.certificate_texts.proofs.SentLaws.{cut_off, none_held}
use Rattle.certificate_texts.proofs.pieces.make_room.Goals as goal

pub returns-in_err-send-clause-failed : goal.returns-in_err-send-clause-failed
returns-in_err-send-clause-failed g c = λ origin text is.
    let cut = cut_off c.args.name.now origin (g.F.Files.view c.args.files.now) (g.F.Files.view c.send.new.files) c.args.held.now.bytes text is c.in_err-send.field-0.0
    c.in_err-send.ensures in
    search rules

pub returns-clause-sent : goal.returns-clause-sent
returns-clause-sent g c = λ origin text is.
    rw c.clear.ensures
    (none_held c.args.name.now origin (g.F.Files.view c.args.files.now) (g.F.Files.view c.send.new.files) c.args.held.now.bytes text is c.in_ok-send.ensures)
