use Rattle.std.proofs.Common.{replicate, refl, subst, sym}
use Rattle.std.specs.List.{All}
use Rattle.std.proofs.lemmas.List.Elements.{All-push}
use Rattle.minute_parts.proofs.UnionLaws.{nothing_told}
use Rattle.leap_unions.specs.declared.rows.TheConstants.{PLACES}
use Rattle.leap_unions.specs.Kept.{IsKept}
use Rattle.leap_unions.proofs.KeptLaws.{row_none}
use Rattle.leap_unions.proofs.row_maker.Maker.end_year.Goals as goal

pub returns-clause-years : goal.returns-clause-years
returns-clause-years c =
    let w = c.args.self.now in
    subst (All (IsKept w.station w.seconds)) (sym c.in_ok-push.ensures.items)
    (All-push (IsKept w.station w.seconds) c.args.years.now.items c.args.year c.requires.years c.requires.kept)

pub returns-clause-row : goal.returns-clause-row
returns-clause-row c =
    let w = c.args.self.now in
    row_none w.station w.seconds c.args.year.hi c.args.year.hi (replicate PLACES 0) refl (nothing_told PLACES)
