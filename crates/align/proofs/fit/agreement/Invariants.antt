use Rattle.std.proofs.Common.{◌≡◌, ◌+◌, ◌-◌, ◌*◌, ◌%◌, ◌≤◌, get_or}
use Rattle.definitions.specs.heard.Costs.{sum_below}
use Rattle.align.proofs.fit.agreement.Given as goal

abbrev pub invariant-loop-i : goal.invariant-loop-i
invariant-loop-i l = record {
  sum : l.sum ≡ sum_below l.i (λ i. get_or l.counts ((l.f + 1000 - 50 + i) % 1000) 0 * (50 - ((i - 50) + (50 - i))));
  bound : l.sum ≤ 80_000_000 * l.i;
}
