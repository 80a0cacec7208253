-- What is counted so far, and what the other receivers will add.
use Rattle.std.proofs.Common.{◌≡◌, ℕ, ◌+◌, ◌*◌, ◌≤◌, get_or, drop}
use Rattle.definitions.specs.heard.Receivers.{receptions}
use Rattle.align.specs.Counters.{tally}
use Rattle.align.specs.Receivers.{receivers}
use Rattle.align.proofs.BankLaws.{sum_heard}
use Rattle.align.proofs.fit.count_all.Given as goal

abbrev pub invariant-loop-i : goal.invariant-loop-i
invariant-loop-i l = record {
  counted : (g : ℕ → ℕ) → tally l.counts g + sum_heard g l.start l.seconds (receivers (drop l.i l.stations) (receptions (drop l.i l.tunings) (drop l.i l.logs)))
      ≡ sum_heard g l.start l.seconds (receivers l.stations (receptions l.tunings l.logs));
  bound : (o : ℕ) → get_or l.counts o 0 ≤ 200_000 * l.i;
}
