use Rattle.std.proofs.Common.{◌+◌, ◌*◌, true, slice_index, subst, arith}
use Rattle.signal_base.specs.declared.station.Station.{Station}
use Rattle.minute_parts.specs.Unions.{IsUnionOver}
use Rattle.leap_unions.proofs.KeptLaws.{row_regular}
use Rattle.leap_unions.proofs.row_maker.Maker.regular.Goals as goal

pub returns-clause-kept : goal.returns-clause-kept
returns-clause-kept c =
    let w = c.args.self.now in
    let row = c.regular_row.result in
    record {
      some = c.requires.some;
      century = omega (arith, c.requires.century);
      row = row_regular w.station w.seconds c.args.lo c.args.hi row c.requires.some
          (λ u from to. c.requires.short u from (omega (arith, to, c.requires.reach))) (omega (arith, c.requires.century, c.requires.reach))
          (λ m s le lt.
          subst (λ (station : Station). IsUnionOver station true (c.args.lo + m) (c.args.hi + m) s (slice_index row (60 * m + s))) w.of_station
          (c.regular_row.ensures m s (omega (arith, le, c.requires.reach)) lt));
    }
