-- One offset more, or none where it isn't swept.
use Rattle.std.proofs.Common.{sym, ◌∙◌}
use Rattle.bank.specs.Hearing.{bank_seen}
use Rattle.judges.proofs.StepLaws.{left_out}
use Rattle.judges.proofs.offsets.come_to.Goals as goal

pub returns-then-is_swept-clause-failed : goal.returns-then-is_swept-clause-failed
returns-then-is_swept-clause-failed g c = λ e. ((c.requires.offset, sym c.is_swept.ensures ∙ c.if-is_swept.true), c.keep_at.ensures.failed e)

pub returns-clause-judged : goal.returns-clause-judged
returns-clause-judged g c = λ named.
    left_out (g.F.Files.view c.args.files.now) c.args.name.now c.args.window.now (bank_seen c.args.bank.now) c.args.offset c.args.before (sym c.is_swept.ensures ∙ c.if-is_swept.false) named
