-- The last byte is a CR or it is not.
use Rattle.pulse_log.proofs.LineLaws.{without_cr-yes, without_cr-no}
use Rattle.pulse_log.proofs.line.trimmed.Goals as goal

pub returns-then-last-eq13 : goal.returns-then-last-eq13
returns-then-last-eq13 c = without_cr-yes c.args.line.now c.in-Some.front.now c.in-Some.last.now c.in-Some.ensures.cases.0 c.if-last-eq13.true

pub returns-else-last-eq13 : goal.returns-else-last-eq13
returns-else-last-eq13 c = without_cr-no c.args.line.now c.in-Some.front.now c.in-Some.last.now c.in-Some.ensures.cases.0 c.if-last-eq13.false
