-- The bytes so far were read.
use Rattle.std.proofs.Common.{◌-◌, ◌≤◌, length, take}
use Rattle.certificate_judge.specs.Kept.{IsReadInto}
use Rattle.certificate_judge.proofs.text.kept_of.Given as goal

abbrev pub invariant-loop-i : goal.invariant-loop-i
invariant-loop-i l = record {
  within : l.i ≤ length l.bytes;
  lines : l.reader.lines ≤ l.i;
  so_far : IsReadInto l.reader l.kept (take l.i l.bytes);
}

abbrev pub decreases-loop-i : goal.decreases-loop-i
decreases-loop-i l = length l.bytes - l.i
