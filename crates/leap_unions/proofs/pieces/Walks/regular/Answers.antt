use Rattle.std.proofs.Common.{◌≤◌, ◌+◌, ◌*◌, true, slice_index, subst, arith}
use Rattle.signal_base.specs.declared.station.Station.{Station}
use Rattle.minute_parts.specs.Unions.{IsUnionOver}
use Rattle.minute_parts.specs.Parts.{IsPartTable, PartTable}
use Rattle.leap_unions.proofs.RegularLaws.{encoded_by_all, not_walkable, regular_unions, short_minute}
use Rattle.leap_unions.proofs.pieces.Walks.regular.Goals as goal

pub returns-then-cut-t-clause-unions : goal.returns-then-cut-t-clause-unions
returns-then-cut-t-clause-unions c = λ walk.
    let w = c.args.self.now in
    not_walkable w.window.now w.second c.requires.second c.args.t c.args.hi
    (λ u from to. c.requires.short u from (omega (arith, c.requires.reach, to))) (omega (arith, c.requires.reach, c.requires.century)) w.end w.encoded
    walk.0 walk.1 walk.2 (omega (arith, w.is_window.not_short)) (omega (arith, c.requires.reach, c.if-cut-t.true, c.min-cut.ensures, c.saturating_sub.ensures, c.requires.order, walk.1)) walk.3

pub regular_row-row-requires-clause-regular : goal.regular_row-row-requires-clause-regular
regular_row-row-requires-clause-regular c =
    let w = c.args.self.now in
    let p : PartTable = w.unions.now in
    let table : IsPartTable p = subst IsPartTable c.parts.ensures c.end.ensures.table in
    let last : w.end ≤ p.end = encoded_by_all p w.window.now.stations w.station w.end table w.of_station w.heard w.encoded in
    record {
      early = omega (arith, last, c.min-cut.ensures, c.saturating_sub.ensures, c.if-cut-t.false);
      short = λ u from to. short_minute u (c.requires.short u from (omega (arith, to, c.min-cut.ensures)));
    }

pub returns-clause-unions : goal.returns-clause-unions
returns-clause-unions c =
    let w = c.args.self.now in
    let cut = c.min-cut.result in
    let less : cut ≤ c.args.hi = omega (arith, c.min-cut.ensures) in
    let early : cut + c.args.reach ≤ w.end = omega (arith, c.min-cut.ensures, c.saturating_sub.ensures, c.if-cut-t.false) in
    regular_unions w.window.now w.second c.requires.second c.args.t cut
    (λ u from to. c.requires.short u from (omega (arith, c.requires.reach, to, less))) (omega (arith, c.requires.reach, c.requires.century, less)) w.end w.encoded
    w.station c.regular_row-row.result c.sets_from.result (omega (arith, c.if-cut-t.false)) c.requires.from (omega (arith, less, c.requires.to))
    (omega (arith, early, c.requires.reach))
    (λ m s le lt.
    subst (λ (station : Station). IsUnionOver station true (c.args.t + m) (cut + m) s (slice_index c.regular_row-row.result (60 * m + s))) w.of_station
    (c.regular_row-row.ensures m s (omega (arith, le, c.requires.reach)) lt))
    (λ k lt. c.sets_from.ensures k (omega (arith, lt, w.is_window.not_long)))
