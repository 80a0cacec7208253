-- What is held back grows, or all before it was cut off.
use Rattle.std.proofs.Common.{rules}
use Rattle.certificate_texts.proofs.SentLaws.{front_of_more, more_held}
use Rattle.certificate_texts.proofs.pieces.put.Goals as goal

pub returns-in_err-make_room-clause-failed : goal.returns-in_err-make_room-clause-failed
returns-in_err-make_room-clause-failed g c = λ origin text is.
    let cut = front_of_more c.args.name.now origin (g.F.Files.view c.make_room.new.files) text c.args.more.now (c.in_err-make_room.ensures.failed origin text is) in
    search rules

pub returns-clause-sent : goal.returns-clause-sent
returns-clause-sent g c = λ origin text is.
    rw c.push_str.ensures.bytes
    (more_held c.args.name.now origin (g.F.Files.view c.make_room.new.files) c.make_room.new.held.bytes c.args.more.now text (c.in_ok-make_room.ensures.sent origin text is))
