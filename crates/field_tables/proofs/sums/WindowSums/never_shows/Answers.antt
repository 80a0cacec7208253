use Rattle.std.proofs.Common.{◌≡◌, ◌+◌, ◌<◌, ◌≤◌, inl, inr, List, length, get_or, sym, ap, ◌∙◌, subst, arith}
use Rattle.std.proofs.lemmas.Bool.{cases_lt}
use Rattle.std.proofs.lemmas.List.{get_or_default}
use Rattle.minute_parts.specs.Unions.{AreRegular}
use Rattle.minute_parts.specs.Walks.{later_minutes}
use Rattle.walk_costs.specs.Walks.{PricedParts, ShowsAnnouncement}
use Rattle.field_tables.specs.Minutes.{no_walks, sequence_at}
use Rattle.field_tables.specs.Sums.{AreSums, Sums}
use Rattle.field_tables.proofs.MinuteLaws.{regular_walks, some_shows}
use Rattle.field_tables.proofs.SumLaws.{regular}
use Rattle.field_tables.proofs.sums.WindowSums.never_shows.Goals as goal

pub never_shows-requires-clause-regular : goal.never_shows-requires-clause-regular
never_shows-requires-clause-regular c =
    let are = subst AreSums c.self.view_is c.self.invariant.0 in
    let all = c.deref-station-items.ensures.value ∙ ap (λ (s : Sums). s.stations) c.self.view_is in
    let b = c.args.block.now in
    let i = c.loop-station.station-index in
    let w = c.station-item.result in
    let lt = subst (λ (ws : List PricedParts). i < length ws) all c.loop-station-test.true in
    let is = c.station-item.is ∙ ap (λ (ws : List PricedParts). get_or ws i w) all in
    subst (λ a. AreRegular a b.lo (b.hi + later_minutes (length w.grid.rows) b.second) w.parts.end) c.requires.announced
    (regular c.args.self.now are i w lt is b.announced b.second b.lo b.hi (regular_walks c.args.self.now b c.requires.walks c.requires.encoded))

pub loop-station-init : goal.loop-station-init
loop-station-init c = λ j t0 less ge lt. absurd (omega (arith, less))

pub loop-station-preserved : goal.loop-station-preserved
loop-station-preserved c =
    let sums = c.args.self.now in
    let all = c.deref-station-items.ensures.value ∙ ap (λ (s : Sums). s.stations) c.self.view_is in
    let b = c.args.block.now in
    let i = c.loop-station.station-index in
    let w = c.station-item.result in
    let lt = subst (λ (ws : List PricedParts). i < length ws) all c.loop-station-test.true in
    let at : w ≡ get_or sums.stations i no_walks = c.station-item.is ∙ ap (λ (ws : List PricedParts). get_or ws i w) all ∙ get_or_default sums.stations i w no_walks lt in
    λ j t0 less ge before. elim (cases_lt j i) [
      | inl earlier ↦ c.loop-station.invariant j t0 earlier ge before
      | inr last ↦ (
          let same : j ≡ i = omega (arith, last, less) in
          λ shows. c.never_shows.ensures c.if-not-never_shows.false t0 ge before
          (subst (λ (v : PricedParts). ShowsAnnouncement v (sequence_at b t0)) (sym at)
          (subst (λ n. ShowsAnnouncement (get_or sums.stations n no_walks) (sequence_at b t0)) same shows)))
    ]

pub returns : goal.returns
returns c = λ _ t0 ge lt shows.
    let sums = c.args.self.now in
    let are = subst AreSums c.self.view_is c.self.invariant.0 in
    let all = c.deref-station-items.ensures.value ∙ ap (λ (s : Sums). s.stations) c.self.view_is in
    let past = subst (λ (ws : List PricedParts). length ws ≤ c.loop-station.station-index) all c.loop-station-test.false in
    let some = some_shows sums are (sequence_at c.args.block.now t0) shows in
    c.loop-station.invariant some.0 t0 (omega (arith, some.1, past)) ge lt some.2
