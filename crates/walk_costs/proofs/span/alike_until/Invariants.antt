use Rattle.std.proofs.Common.{◌≡◌, ◌<◌, ◌≤◌, ℕ}
use Rattle.minute_parts.specs.Runs.{end_of_run, run_at}
use Rattle.walk_costs.specs.Near.{IsAlike}
use Rattle.walk_costs.proofs.span.alike_until.Given as goal

abbrev pub invariant-loop-r : goal.invariant-loop-r
invariant-loop-r l = record {
  from : l.run ≤ l.r;
  end : l.end ≡ end_of_run l.parts.runs l.parts.end l.r;
  shift : (run_at l.parts.runs l.r).shift ≡ l.shift;
  alike : (r : ℕ) → l.run ≤ r → r < l.r → IsAlike l.parts l.least l.costs l.run r;
}
