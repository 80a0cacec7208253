use Rattle.std.proofs.Common.{◌≡◌, ◌+◌, length}
use Rattle.leap_unions.specs.declared.rows.TheConstants.{PLACES}
use Rattle.leap_unions.specs.Kept.{IsRow}
use Rattle.leap_unions.proofs.row_maker.Maker.near.Given as goal

abbrev pub invariant-loop-m : goal.invariant-loop-m
invariant-loop-m l = record {
  long : length l.row ≡ PLACES;
  row : IsRow l.self.station l.self.seconds l.tape.lo (l.tape.lo + l.m) l.row;
}
