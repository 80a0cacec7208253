use Rattle.std.proofs.Common.{◌≡◌, ◌<◌, ℕ, bit_xor, length, get_or}
use Rattle.minute_parts.specs.declared.part.TheConstants.{SECONDS}
use Rattle.minute_parts.proofs.date_rows.differences.Given as goal

abbrev pub invariant-loop-s : goal.invariant-loop-s
invariant-loop-s l = record {
  long : length l.part ≡ SECONDS;
  sets : (s : ℕ) → s < l.s → get_or l.part s 0 ≡ bit_xor (get_or l.a s 0) (get_or l.b s 0);
}
