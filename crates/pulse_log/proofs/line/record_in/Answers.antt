-- What the last two bytes, or the digits before them, are not is no record.
use Rattle.pulse_log.proofs.TimeLaws.{SpellsRecord-ends}
use Rattle.pulse_log.proofs.line.record_in.Goals as goal

pub returns-then-space-ne32-clause-none : goal.returns-then-space-ne32-clause-none
returns-then-space-ne32-clause-none c = λ r h.
    c.if-space-ne32.true (SpellsRecord-ends c.args.bytes.now c.in_ok-byte.front.now c.in_ok-space.digits.now c.in_ok-space.space.now c.in_ok-byte.byte.now r c.in_ok-byte.ensures.cases.0 c.in_ok-space.ensures.cases.0 h).1

pub returns-in_err-time_in-clause-none : goal.returns-in_err-time_in-clause-none
returns-in_err-time_in-clause-none c = rw c.from_residual-in_err-time_in.ensures (λ r h.
    c.in_err-time_in.ensures.none r.0 (SpellsRecord-ends c.args.bytes.now c.in_ok-byte.front.now c.in_ok-space.digits.now c.in_ok-space.space.now c.in_ok-byte.byte.now r c.in_ok-byte.ensures.cases.0 c.in_ok-space.ensures.cases.0 h).0)

pub returns-in_err-level_of-clause-none : goal.returns-in_err-level_of-clause-none
returns-in_err-level_of-clause-none c = rw c.from_residual-in_err-level_of.ensures (λ r h.
    c.in_err-level_of.ensures.none r.1 (SpellsRecord-ends c.args.bytes.now c.in_ok-byte.front.now c.in_ok-space.digits.now c.in_ok-space.space.now c.in_ok-byte.byte.now r c.in_ok-byte.ensures.cases.0 c.in_ok-space.ensures.cases.0 h).2)
