-- All is written, or a front of it.
use Rattle.std.proofs.Common.{rules}
use Rattle.certificate_texts.proofs.SentLaws.{all_written, cut_off}
use Rattle.certificate_texts.proofs.pieces.flush.Goals as goal

pub returns-in_err-send-clause-failed : goal.returns-in_err-send-clause-failed
returns-in_err-send-clause-failed g c = λ origin text is.
    let cut = cut_off c.args.name.now origin (g.F.Files.view c.args.files.now) (g.F.Files.view c.send.new.files) c.args.held.now.bytes text is c.in_err-send.field-0.0
    c.in_err-send.ensures in
    search rules

pub returns-clause-whole : goal.returns-clause-whole
returns-clause-whole g c = λ origin text is.
    all_written c.args.name.now origin (g.F.Files.view c.args.files.now) (g.F.Files.view c.send.new.files) c.args.held.now.bytes text is c.in_ok-send.ensures
