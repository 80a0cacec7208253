use Rattle.std.proofs.Common.{◌≡◌, ◌<◌, ℕ, false, length, get_or}
use Rattle.slot_columns.specs.declared.limits.TheConstants.{SECONDS_PER_MINUTE}
use Rattle.slot_columns.proofs.terms.mark.Given as goal

abbrev pub invariant-loop-s : goal.invariant-loop-s
invariant-loop-s l = record {
  long : length l.seconds ≡ SECONDS_PER_MINUTE;
  kept : (s : ℕ) → get_or l.seconds s false ≡ false → get_or l.fn.seconds s false ≡ false;
  same : (s : ℕ) → s < l.s → get_or l.seconds s false ≡ false → get_or l.a s 0 ≡ get_or l.b s 0;
}
