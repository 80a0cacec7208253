use Rattle.std.proofs.Common.{◌<◌, ℕ, ap, subst, arith}
use Rattle.signal_base.specs.declared.station.Station.{Station}
use Rattle.definitions.specs.codes.Allowed.{encoded_year}
use Rattle.definitions.specs.sequences.Walks.{place_at}
use Rattle.minute_parts.specs.Parts.{IsPartTable, PartTable}
use Rattle.leap_unions.specs.Pieces.{announced_from}
use Rattle.leap_unions.proofs.NominalLaws.{reached}
use Rattle.leap_unions.proofs.row_maker.Maker.tape.Goals as goal

pub tape_of-requires-clause-sequence : goal.tape_of-requires-clause-sequence
tape_of-requires-clause-sequence c =
    let p : PartTable = c.args.self.now.unions.now in
    let table : IsPartTable p = subst IsPartTable c.parts.ensures c.end.ensures.table in
    record { first_minute = omega (arith, (table.ends c.args.first).0 (omega (arith, c.requires.early))); first_second = omega arith }

pub tape_of-requires-clause-century : goal.tape_of-requires-clause-century
tape_of-requires-clause-century c = λ k lt.
    let p : PartTable = c.args.self.now.unions.now in
    let table : IsPartTable p = subst IsPartTable c.parts.ensures c.end.ensures.table in
    let t : ℕ = (place_at (announced_from 0 c.args.first) k).0 in
    let early : t < p.end = omega (arith, reached 0 c.args.first k, c.requires.early, c.requires.reach, lt) in
    ((table.ends t).0 early).0

pub tape_of-requires-clause-encoded : goal.tape_of-requires-clause-encoded
tape_of-requires-clause-encoded c = λ k lt.
    let w = c.args.self.now in
    let p : PartTable = w.unions.now in
    let table : IsPartTable p = subst IsPartTable c.parts.ensures c.end.ensures.table in
    let t : ℕ = (place_at (announced_from 0 c.args.first) k).0 in
    let early : t < p.end = omega (arith, reached 0 c.args.first k, c.requires.early, c.requires.reach, lt) in
    omega (arith, ((table.ends t).0 early).1, ap (λ (station : Station). encoded_year station t) w.of_station)
