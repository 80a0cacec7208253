-- The checker stands for what was taken so far.
use Rattle.std.proofs.Common.{◌-◌, ℕ, ◌≤◌, ◌++◌, List, length, take}
use Rattle.field_tables.specs.Scored.{Scored}
use Rattle.certificate_judge.specs.Checking.{StandsFor}
use Rattle.certificate_judge.proofs.checker.Checker.push.Given as goal

abbrev pub invariant-loop-i : goal.invariant-loop-i
invariant-loop-i l = record {
  within : l.i ≤ length l.bytes;
  stands : (tables : Scored) (ceiling : ℕ) (before : List ℕ) → StandsFor l.fn.self tables ceiling before → StandsFor l.self tables ceiling (before ++ take l.i l.bytes);
}

abbrev pub decreases-loop-i : goal.decreases-loop-i
decreases-loop-i l = length l.bytes - l.i
