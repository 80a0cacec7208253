-- What was heard is one text that is added to standard output.
use Rattle.std.proofs.Common.{subst, sym}
use Rattle.due.specs.declared.heard_due.HeardDue.{HeardDue}
use Rattle.due.specs.HeardRuns.{heard_outputs}
use Rattle.formats.specs.Heard.{heard_text}
use Rattle.bank.specs.Ending.{WritesAll}
use Rattle.bank.proofs.EndingLaws.{one_written}
use Rattle.heard.specs.declared.hearing.Hearing.{Hearing}
use Rattle.heard.specs.Seen.{due_seen, hearing_seen}
use Rattle.heard.proofs.deliver.deliver.Goals as goal

pub returns-in-Heard : goal.returns-in-Heard
returns-in-Heard g c =
    let old = g.F.Files.view c.args.files.now in
    let new = g.F.Files.view c.write.new.files in
    subst (λ (due : HeardDue Hearing). WritesAll (heard_outputs (due_seen due)) old new c.write.result) (sym c.in-Heard.is)
    (one_written old new (heard_text (hearing_seen c.in-Heard.hearing)) c.write.result c.write.ensures)
