-- Those that were heard so far are kept.
use Rattle.bank.specs.Hearing.{bank_seen}
use Rattle.sweep.proofs.KeptLaws.{AreKeptTo}
use Rattle.sweep.proofs.kept.keep_phases.Given as goal

abbrev pub invariant-loop-i : goal.invariant-loop-i
invariant-loop-i g l = AreKeptTo l.window (bank_seen l.bank) l.certify.name.now l.heard l.i l.kept.items
