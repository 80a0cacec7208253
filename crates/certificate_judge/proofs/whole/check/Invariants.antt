-- The lines so far were judged.
use Rattle.std.proofs.Common.{◌-◌, ◌≡◌, ℕ, ◌≤◌, length, take}
use Rattle.certificate_judge.specs.Judging.{IsJudged}
use Rattle.certificate_judge.proofs.whole.check.Given as goal

abbrev pub invariant-loop-i : goal.invariant-loop-i
invariant-loop-i l = record {
  within : l.i ≤ length l.lines;
  judged : IsJudged l.limit l.judge (take l.i l.lines);
  tables : l.judge.due.tables.now ≡ l.tables;
  ceiling : l.judge.ceiling ≡ l.ceiling;
}

abbrev pub decreases-loop-i : goal.decreases-loop-i
decreases-loop-i l = length l.lines - l.i
