use Rattle.std.proofs.Common.{◌≡◌, ◌<◌, ℕ, length, get_or}
use Rattle.minute_parts.specs.Dates.{time_set}
use Rattle.minute_parts.proofs.times.time_part.Given as goal

abbrev pub invariant-loop-s : goal.invariant-loop-s
invariant-loop-s l = record {
  long : length l.part ≡ 60;
  done : (s : ℕ) → s < l.s → get_or l.part s 0 ≡ time_set l.station l.u s;
}
