use Rattle.std.proofs.Common.{◌≡◌, ◌+◌, ◌*◌, ◌<◌, ℕ, length, get_or}
use Rattle.minute_parts.specs.Unions.{IsUnionOver}
use Rattle.leap_unions.specs.declared.rows.TheConstants.{PLACES}
use Rattle.leap_unions.proofs.rows.regular_row.Given as goal

abbrev pub invariant-loop-m : goal.invariant-loop-m
invariant-loop-m l = record {
  long : length l.row ≡ PLACES;
  done : (m s : ℕ) → m < l.m → s < 60 → IsUnionOver l.unions.station l.announced (l.lo + m) (l.hi + m) s (get_or l.row (60 * m + s) 0);
}
