-- The walk's sets are those of the slots.
use Rattle.std.proofs.Common.{◌≡◌, ◌↔◌, true, sym, ap, ◌∙◌, subst}
use Rattle.leap_unions.specs.Scope.{Scope}
use Rattle.leap_unions.specs.Walks.{IsLeapWalk, ShowsIn}
use Rattle.leap_unions.proofs.WalkLaws.{shown_by}
use Rattle.leap_unions.proofs.unions.LeapUnions.shows.Goals as goal

pub returns : goal.returns
returns c =
    let own : Scope = record { station = c.self.inside.station; seconds = c.self.inside.seconds } in
    let walk = c.args.walk.now in
    let is = subst (λ (scope : Scope). IsLeapWalk scope c.args.p c.args.first walk) (sym c.self.view_is) c.requires.walk in
    let same = c.requires.unions ∙ sym (ap (λ (scope : Scope). scope.station) c.self.view_is) in
    subst (λ (scope : Scope). c.shows.result ≡ true ↔ ShowsIn scope c.args.p c.args.first) c.self.view_is
    (shown_by own c.args.p c.args.first walk is c.args.unions.now.station same c.shows.result (λ is. c.shows.ensures.shown is) (λ not. c.shows.ensures.hidden not))
