use Rattle.std.proofs.Common.{◌≡◌, ℕ, ◌-◌, ◌<◌, length, get_or}
use Rattle.signal_base.proofs.tuning.CostTableDefault.default.Given as goal

abbrev pub invariant-loop-n : goal.invariant-loop-n
invariant-loop-n l = record {
  lows : length l.low ≡ 101;
  highs : length l.high ≡ 101;
  low : (k : ℕ) → k < l.n → get_or l.low k 0 ≡ 100 - k;
  high : (k : ℕ) → k < l.n → get_or l.high k 0 ≡ k;
}
