use Rattle.std.proofs.Common.{◌≡◌, ◌+◌, ◌*◌, ◌<◌, ℕ, length, get_or}
use Rattle.leap_unions.specs.declared.rows.TheConstants.{PLACES}
use Rattle.leap_unions.proofs.rows.put_part.Given as goal

abbrev pub invariant-loop-s : goal.invariant-loop-s
invariant-loop-s l = record {
  long : length l.row ≡ PLACES;
  here : (j : ℕ) → j < l.s → get_or l.row (60 * l.m + j) 0 ≡ get_or l.part j 0;
  before : (i : ℕ) → i < 60 * l.m → get_or l.row i 0 ≡ get_or l.fn.row i 0;
}
