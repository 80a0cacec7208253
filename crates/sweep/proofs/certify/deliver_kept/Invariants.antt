-- What is written so far leads on to the whole.
use Rattle.std.proofs.Common.{◌-◌, drop, length}
use Rattle.sweep.proofs.DeliverLaws.{LeadsOn}
use Rattle.sweep.proofs.certify.deliver_kept.Given as goal

abbrev pub invariant-loop-i : goal.invariant-loop-i
invariant-loop-i g l = LeadsOn l.workers l.due l.kept (g.F.Files.view l.fn.files) (drop l.i l.kept) (g.F.Files.view l.files)

abbrev pub decreases-loop-i : goal.decreases-loop-i
decreases-loop-i g l = length l.kept - l.i
