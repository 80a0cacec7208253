use Rattle.std.proofs.Common.{◌≡◌, ◌-◌}
use Rattle.definitions.specs.heard.Phase.{circular_distance, first_maximum}
use Rattle.align.specs.Counters.{tally}
use Rattle.align.proofs.fit.best.Given as goal

abbrev pub invariant-loop-f : goal.invariant-loop-f
invariant-loop-f l = record {
  best : l.best ≡ first_maximum (λ f. tally l.counts (λ o. 50 - circular_distance o f)) (l.f - 1);
  most : l.most ≡ tally l.counts (λ o. 50 - circular_distance o l.best);
}
