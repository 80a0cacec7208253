-- The offset of the first sequence is swept.
use Rattle.sweep.proofs.phases.told_window.Goals as goal

pub window_at-requires-clause-offset : goal.window_at-requires-clause-offset
window_at-requires-clause-offset c = (c.requires.swept c.in-Some.first c.in-Some.is).0

pub window_at-requires-clause-swept : goal.window_at-requires-clause-swept
window_at-requires-clause-swept c = (c.requires.swept c.in-Some.first c.in-Some.is).1
