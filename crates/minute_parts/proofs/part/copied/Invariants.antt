use Rattle.std.proofs.Common.{◌≡◌, ◌<◌, ℕ, length, get_or}
use Rattle.minute_parts.specs.declared.part.TheConstants.{SECONDS}
use Rattle.minute_parts.proofs.part.copied.Given as goal

abbrev pub invariant-loop-s : goal.invariant-loop-s
invariant-loop-s l = record {
  long : length l.copy ≡ SECONDS;
  sets : (s : ℕ) → s < l.s → get_or l.copy s 0 ≡ get_or l.part s 0;
  bytes : (s : ℕ) → s < l.s → get_or l.copy s 0 < 256;
}
