-- The offsets so far.
use Rattle.bank.specs.Hearing.{bank_seen}
use Rattle.sweep.specs.Keeping.{AreHeard}
use Rattle.sweep.proofs.heard.hear_phases.Given as goal

abbrev pub invariant-loop-offset : goal.invariant-loop-offset
invariant-loop-offset l = AreHeard l.window (bank_seen l.bank) l.offset l.heard.items
