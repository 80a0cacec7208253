-- What is counted so far, and what the other records will add.
use Rattle.std.proofs.Common.{◌≡◌, ℕ, ◌+◌, ◌≤◌, get_or, drop}
use Rattle.definitions.specs.declared.level.Level.TheVariants.{Unknown}
use Rattle.align.specs.Counters.{tally}
use Rattle.align.proofs.EdgeLaws.{sum_after}
use Rattle.align.proofs.edges.count_log.Given as goal

abbrev pub invariant-loop-i : goal.invariant-loop-i
invariant-loop-i l = record {
  counted : (g : ℕ → ℕ) → tally l.counts g + sum_after g l.station l.begin l.seconds l.before (drop l.i l.log)
      ≡ tally l.fn.counts g + sum_after g l.station l.begin l.seconds Unknown l.log;
  bound : (o : ℕ) → get_or l.counts o 0 ≤ get_or l.fn.counts o 0 + l.i;
}
