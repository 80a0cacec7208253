use Rattle.std.proofs.Common.{◌<◌, ◌≤◌, ℕ, get_or}
use Rattle.minute_parts.specs.Parts.{IsInRun}
use Rattle.minute_parts.specs.declared.part.TheConstants.{SECONDS}
use Rattle.minute_parts.specs.Unions.{IsUnionOver}
use Rattle.minute_parts.proofs.unions.Unions.over.Given as goal

abbrev pub invariant-loop-i : goal.invariant-loop-i
invariant-loop-i l = record {
  run : IsInRun l.self l.t l.i;
  begun : l.lo ≤ l.t;
  not_over : l.t < l.hi;
  union : (s : ℕ) → s < SECONDS → IsUnionOver l.self.station l.announced l.lo l.t s (get_or l.union s 0);
}
