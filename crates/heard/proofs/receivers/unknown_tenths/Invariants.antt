-- The tenths so far.
use Rattle.std.proofs.Common.{◌≡◌, ◌+◌, ◌*◌, ◌≤◌, if◌then◌else◌}
use Rattle.std.specs.Prelude.{is_none}
use Rattle.definitions.specs.heard.Costs.{sum_below}
use Rattle.definitions.specs.heard.Logs.{low_count}
use Rattle.heard.proofs.receivers.unknown_tenths.Given as goal

abbrev pub invariant-loop-j : goal.invariant-loop-j
invariant-loop-j l = record {
  count : l.unknown ≡ sum_below l._j (λ j. if is_none (low_count l.log (l.from + 100 * j) 100) then 1 else 0);
  few : l.unknown ≤ l._j;
  at : l.tenths.at ≡ l.from + 100 * l._j;
  log : l.tenths.log ≡ l.log;
}
