use Rattle.std.proofs.Common.{◌≡◌, length, sym, ap, ◌∙◌, subst, arith}
use Rattle.minute_parts.specs.Parts.{PartTable}
use Rattle.walk_costs.specs.Walks.{PricedParts}
use Rattle.field_tables.proofs.LeapLaws.{shows_of_walk}
use Rattle.field_tables.proofs.station.StationSums.leap_shows.Goals as goal

pub shows-requires-clause-unions : goal.shows-requires-clause-unions
shows-requires-clause-unions c =
    let its = c.walks.ensures ∙ c.self.view_is in
    let unions = c.unions-unions.ensures.unions ∙ ap (λ (v : PricedParts). v.parts) its in
    ap (λ (p : PartTable). p.station) unions ∙ sym (c.self.invariant.0 ∙ ap (λ (v : PricedParts). v.parts.station) c.self.view_is)

pub shows-requires-clause-encoded : goal.shows-requires-clause-encoded
shows-requires-clause-encoded c =
    let its = c.walks.ensures ∙ c.self.view_is in
    let unions = c.unions-unions.ensures.unions ∙ ap (λ (v : PricedParts). v.parts) its in
    let seconds = c.self.invariant.1 ∙ ap (λ (v : PricedParts). length v.grid.rows) c.self.view_is in
    omega (arith, c.requires.encoded, seconds, ap (λ (p : PartTable). p.end) unions)

pub returns : goal.returns
returns c =
    let w = c.args.self.now in
    let own = c.self.inside in
    let its = c.walks.ensures ∙ c.self.view_is in
    let same_station = subst (λ (v : PricedParts). v.parts.station ≡ v.grid.station) its c.unions-unions.ensures.station in
    let station : own.leaps.now.station ≡ w.grid.station = c.self.invariant.0 ∙ ap (λ (v : PricedParts). v.parts.station) c.self.view_is ∙ same_station in
    let seconds : own.leaps.now.seconds ≡ length w.grid.rows = c.self.invariant.1 ∙ ap (λ (v : PricedParts). length v.grid.rows) c.self.view_is in
    shows_of_walk w own.leaps.now c.args.p c.args.first c.shows.result c.shows.ensures station seconds
