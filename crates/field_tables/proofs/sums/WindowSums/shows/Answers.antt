use Rattle.std.proofs.Common.{◌≡◌, ◌+◌, ◌<◌, ◌≤◌, ◌↔◌, Bool, true, List, length, get_or, sym, ap, ◌∙◌, subst, arith}
use Rattle.definitions.specs.declared.sequence.Sequence.{Sequence}
use Rattle.definitions.specs.answers.Blocks.{first_of}
use Rattle.minute_parts.specs.Unions.{AreRegular}
use Rattle.minute_parts.specs.Walks.{later_minutes}
use Rattle.walk_costs.specs.Walks.{PricedParts, ShowsAnnouncement}
use Rattle.field_tables.specs.Sums.{Sums}
use Rattle.field_tables.proofs.LeapLaws.{first_is, shows_more}
use Rattle.field_tables.proofs.MinuteLaws.{first_regular, shows_leap, some_shows}
use Rattle.field_tables.proofs.SumLaws.{regular}
use Rattle.field_tables.proofs.sums.WindowSums.shows.Goals as goal

pub shows_by_minutes-shows-requires-clause-regular : goal.shows_by_minutes-shows-requires-clause-regular
shows_by_minutes-shows-requires-clause-regular c =
    let sums = c.args.self.now in
    let are = c.end.ensures.sums in
    let all = c.deref-station-items.ensures.value ∙ ap (λ (s : Sums). s.stations) c.self.view_is in
    let b = c.args.minute.now in
    let i = c.loop-station.station-index in
    let w = c.station-item.result in
    let lt = subst (λ (ws : List PricedParts). i < length ws) all c.loop-station-test.true in
    let is = c.station-item.is ∙ ap (λ (ws : List PricedParts). get_or ws i w) all in
    subst (λ (v : PricedParts). AreRegular true b.lo (b.lo + 1 + later_minutes (length v.grid.rows) b.second) v.parts.end) (sym c.walks-walks.ensures)
    (subst (λ (a : Bool). AreRegular a b.lo (b.lo + 1 + later_minutes (length w.grid.rows) b.second) w.parts.end) c.requires.announced
    (regular sums are i w lt is b.announced b.second b.lo (b.lo + 1) (first_regular sums b c.requires.some c.requires.walks c.requires.encoded)))

pub loop-station-preserved : goal.loop-station-preserved
loop-station-preserved c =
    let sums = c.args.self.now in
    let all = c.deref-station-items.ensures.value ∙ ap (λ (s : Sums). s.stations) c.self.view_is in
    let b = c.args.minute.now in
    let i = c.loop-station.station-index in
    let w = c.station-item.result in
    let told = c.shows_by_minutes-shows.result in
    let lt = subst (λ (ws : List PricedParts). i < length ws) all c.loop-station-test.true in
    let is = c.station-item.is ∙ ap (λ (ws : List PricedParts). get_or ws i w) all in
    let here = subst (λ (v : PricedParts). told ≡ true ↔ ShowsAnnouncement v (record { first = b.lo; second = b.second; announced = true })) c.walks-walks.ensures c.shows_by_minutes-shows.ensures in
    let shows = subst (λ (q : Sequence). told ≡ true ↔ ShowsAnnouncement w q) (first_is b c.requires.announced) here in
    record { shown = shows_more sums (first_of b) i w c.loop-station.shows told lt is c.loop-station.invariant.shown shows }

pub returns : goal.returns
returns c =
    let sums = c.args.self.now in
    let are = c.end.ensures.sums in
    let all = c.deref-station-items.ensures.value ∙ ap (λ (s : Sums). s.stations) c.self.view_is in
    let q = first_of c.args.minute.now in
    let at = c.loop-station in
    let past = subst (λ (ws : List PricedParts). length ws ≤ at.station-index) all c.loop-station-test.false in
    let end = subst (λ (ws : List PricedParts). at.station-index ≤ length ws) all at.auto.station-index-end in (
      λ is. (let s = at.invariant.shown.0 is in shows_leap sums are s.0 q (omega (arith, s.1, end)) s.2),
      λ is. (let s = some_shows sums are q is in at.invariant.shown.1 (s.0, omega (arith, s.1, past), s.2)),
    )
