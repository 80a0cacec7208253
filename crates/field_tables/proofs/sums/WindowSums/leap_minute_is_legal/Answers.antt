-- The sequence is legal where it shows the announcement at some station.
use Rattle.std.proofs.Common.{◌≡◌, ◌<◌, ◌≤◌, ◌↔◌, true, List, length, get_or, sym, ap, ◌∙◌, subst, arith}
use Rattle.definitions.specs.declared.sequence.Sequence.{Sequence}
use Rattle.definitions.specs.answers.Blocks.{first_of}
use Rattle.minute_parts.specs.Walks.{later_minutes}
use Rattle.walk_costs.specs.Walks.{PricedParts, ShowsAnnouncement}
use Rattle.field_tables.specs.Sums.{Sums}
use Rattle.field_tables.proofs.LeapLaws.{first_is, legal_near_leap, shows_more}
use Rattle.field_tables.proofs.MinuteLaws.{minutes_of, shows_leap, some_shows}
use Rattle.field_tables.proofs.SumLaws.{slots}
use Rattle.field_tables.proofs.sums.WindowSums.leap_minute_is_legal.Goals as goal

pub may_be_leap_walk-requires : goal.may_be_leap_walk-requires
may_be_leap_walk-requires c =
    let minutes = minutes_of c.args.self.now.window c.args.minute.now c.requires.block in
    omega (arith, minutes.not_empty, minutes.no_later, c.end.ensures.sums.window.century)

pub leap_shows-requires-clause-encoded : goal.leap_shows-requires-clause-encoded
leap_shows-requires-clause-encoded c =
    let sums = c.args.self.now in
    let are = c.end.ensures.sums in
    let all = c.deref-station-items.ensures.value ∙ ap (λ (s : Sums). s.stations) c.self.view_is in
    let b = c.args.minute.now in
    let i = c.loop-station.station-index in
    let w = c.station-item.result in
    let lt = subst (λ (ws : List PricedParts). i < length ws) all c.loop-station-test.true in
    let is = c.station-item.is ∙ ap (λ (ws : List PricedParts). get_or ws i w) all in
    let within = subst (λ (v : PricedParts). sums.end ≤ v.parts.end) (sym is) (are.within i w lt) in
    omega (arith, within, ap (λ n. later_minutes n b.second) (slots sums are i w lt is), c.may_be_leap_walk.ensures.early c.if-not-may_be_leap_walk.false)

pub loop-station-preserved : goal.loop-station-preserved
loop-station-preserved c =
    let sums = c.args.self.now in
    let are = c.end.ensures.sums in
    let all = c.deref-station-items.ensures.value ∙ ap (λ (s : Sums). s.stations) c.self.view_is in
    let b = c.args.minute.now in
    let i = c.loop-station.station-index in
    let w = c.station-item.result in
    let lt = subst (λ (ws : List PricedParts). i < length ws) all c.loop-station-test.true in
    let is = c.station-item.is ∙ ap (λ (ws : List PricedParts). get_or ws i w) all in
    let shows = subst (λ (q : Sequence). c.in-Some.shows ≡ true ↔ ShowsAnnouncement w q) (first_is b c.requires.announced) c.in-Some.ensures in
    record { shown = shows_more sums (first_of b) i w c.loop-station.legal c.in-Some.shows lt is c.loop-station.invariant.shown shows }

pub returns : goal.returns
returns c =
    let sums = c.args.self.now in
    let are = c.end.ensures.sums in
    let all = c.deref-station-items.ensures.value ∙ ap (λ (s : Sums). s.stations) c.self.view_is in
    let b = c.args.minute.now in
    let q = first_of b in
    let at = c.loop-station in
    let past = subst (λ (ws : List PricedParts). length ws ≤ at.station-index) all c.loop-station-test.false in
    let end = subst (λ (ws : List PricedParts). at.station-index ≤ length ws) all at.auto.station-index-end in
    let legal = legal_near_leap sums are b c.requires.block c.requires.announced (c.may_be_leap_walk.ensures.second c.if-not-may_be_leap_walk.false)
    (c.may_be_leap_walk.ensures.early c.if-not-may_be_leap_walk.false) in (
      λ is. (let s = at.invariant.shown.0 is in legal.1 (shows_leap sums are s.0 q (omega (arith, s.1, end)) s.2)),
      λ is. (let s = some_shows sums are q (legal.0 is) in at.invariant.shown.1 (s.0, omega (arith, s.1, past), s.2)),
    )
