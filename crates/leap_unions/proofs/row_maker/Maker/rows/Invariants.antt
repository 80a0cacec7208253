use Rattle.std.proofs.Common.{◌≤◌}
use Rattle.std.specs.List.{All}
use Rattle.leap_unions.specs.Kept.{IsKept, IsKeptTape, IsRow}
use Rattle.leap_unions.proofs.row_maker.Maker.rows.Given as goal

abbrev pub invariant-loop : goal.invariant-loop
invariant-loop l = record {
  nears : All (IsKept l.self.station l.self.seconds) l.nears.items;
  tapes : All (IsKeptTape l.self.station l.self.seconds) l.tapes.items;
  years : All (IsKept l.self.station l.self.seconds) l.years.items;
  order : l.year.lo ≤ l.year.hi;
  row : IsRow l.self.station l.self.seconds l.year.lo l.year.hi l.year.row;
}
