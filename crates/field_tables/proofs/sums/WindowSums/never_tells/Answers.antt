use Rattle.std.proofs.Common.{◌≡◌, ◌<◌, ◌≤◌, inl, inr, true, List, length, get_or, sym, ap, ◌∙◌, subst, arith}
use Rattle.std.proofs.lemmas.Bool.{cases_lt}
use Rattle.std.proofs.lemmas.List.{get_or_default}
use Rattle.walk_costs.specs.Walks.{IsRegularWalk, PricedParts, ShowsAnnouncement, last_minute}
use Rattle.field_tables.specs.Minutes.{no_walks}
use Rattle.field_tables.specs.Sums.{AreSums, Sums}
use Rattle.field_tables.proofs.sums.WindowSums.never_tells.Goals as goal

pub never_shows-requires-clause-encoded : goal.never_shows-requires-clause-encoded
never_shows-requires-clause-encoded c =
    let are = subst AreSums c.self.view_is c.self.invariant.0 in
    let all = c.deref-station-items.ensures.value ∙ ap (λ (s : Sums). s.stations) c.self.view_is in
    let i = c.loop-station.station-index in
    let w = c.station-item.result in
    let lt = subst (λ (ws : List PricedParts). i < length ws) all c.loop-station-test.true in
    let is = c.station-item.is ∙ ap (λ (ws : List PricedParts). get_or ws i w) all in
    let within = subst (λ (v : PricedParts). c.args.self.now.end ≤ v.parts.end) (sym is) (are.within i w lt) in
    let its = ap (λ (v : PricedParts). v.parts.end) c.walks.ensures in
    omega (arith, within, its, c.requires.encoded)

pub loop-station-init : goal.loop-station-init
loop-station-init c = λ j p t0 less second ge ends regular. absurd (omega (arith, less))

pub loop-station-preserved : goal.loop-station-preserved
loop-station-preserved c =
    let sums = c.args.self.now in
    let all = c.deref-station-items.ensures.value ∙ ap (λ (s : Sums). s.stations) c.self.view_is in
    let i = c.loop-station.station-index in
    let w = c.station-item.result in
    let lt = subst (λ (ws : List PricedParts). i < length ws) all c.loop-station-test.true in
    let at : w ≡ get_or sums.stations i no_walks = c.station-item.is ∙ ap (λ (ws : List PricedParts). get_or ws i w) all ∙ get_or_default sums.stations i w no_walks lt in
    λ j p t0 less second ge. elim (cases_lt j i) [
      | inl earlier ↦ c.loop-station.invariant j p t0 earlier second ge
      | inr last ↦ (
          let same : j ≡ i = omega (arith, last, less) in
          let its = c.walks.ensures ∙ at ∙ ap (λ n. get_or sums.stations n no_walks) (sym same) in
          subst (λ (v : PricedParts). last_minute v p t0 ≤ c.args.last → IsRegularWalk v p t0 → ¬ (ShowsAnnouncement v (record { first = t0; second = p; announced = true })))
          its (c.never_shows.ensures.never c.if-not-never_shows.false p t0 second ge))
    ]

pub returns : goal.returns
returns c = λ _ j p t0 less.
    let all = c.deref-station-items.ensures.value ∙ ap (λ (s : Sums). s.stations) c.self.view_is in
    let past = subst (λ (ws : List PricedParts). length ws ≤ c.loop-station.station-index) all c.loop-station-test.false in
    c.loop-station.invariant j p t0 (omega (arith, less, past))
