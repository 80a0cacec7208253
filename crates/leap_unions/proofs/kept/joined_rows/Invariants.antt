use Rattle.std.proofs.Common.{◌≡◌, ◌<◌, ℕ, bit_or, length, get_or}
use Rattle.leap_unions.specs.declared.rows.TheConstants.{PLACES}
use Rattle.leap_unions.proofs.kept.joined_rows.Given as goal

abbrev pub invariant-loop-i : goal.invariant-loop-i
invariant-loop-i l = record {
  long : length l.row ≡ PLACES;
  done : (i : ℕ) → i < l.i → get_or l.row i 0 ≡ bit_or (get_or l.a i 0) (get_or l.b i 0);
}
