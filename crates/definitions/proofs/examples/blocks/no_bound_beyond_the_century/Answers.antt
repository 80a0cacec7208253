-- No walk of DCF77 begins in the century's last minute.
use Rattle.std.proofs.Common.{arith}
use Rattle.definitions.proofs.EdgeLaws.{last_minute}
use Rattle.definitions.proofs.examples.blocks.no_bound_beyond_the_century.Goals as goal

pub returns-clause-hour : goal.returns-clause-hour
returns-clause-hour c = λ h. last_minute 52595939 52595940 h.0 (omega (arith, h.1.not_before, h.1.before_end)) h.2

pub returns-clause-minute : goal.returns-clause-minute
returns-clause-minute c = λ legal. last_minute 52595939 52595940 _ (omega arith) legal.0
