use Rattle.std.proofs.Common.{ℕ, ◌+◌, ◌-◌, ◌<◌, ◌≤◌, true, length, ap, subst, arith}
use Rattle.minute_parts.specs.Unions.{AreRegular}
use Rattle.minute_parts.specs.Walks.{later_minutes}
use Rattle.walk_costs.specs.Walks.{PricedParts, ShowsAnnouncement}
use Rattle.field_tables.proofs.station.StationSums.never_shows.Goals as goal

pub returns : goal.returns
returns c = λ is t0 ge lt shows.
    let w = c.args.self.now in
    let b = c.args.block.now in
    let later = later_minutes (length w.grid.rows) b.second in
    let long = ap (λ (v : PricedParts). length v.grid.rows) c.walks-walks.ensures in
    let hidden = subst (λ (v : PricedParts). (p t0 : ℕ) → p < 60 → b.lo ≤ t0 → t0 + later_minutes (length v.grid.rows) p ≤ b.hi - 1 + c.later_minutes.result
    → AreRegular true t0 (t0 + 1 + later_minutes (length v.grid.rows) p) v.parts.end → ¬ (ShowsAnnouncement v (record { first = t0; second = p; announced = true })))
    c.walks-walks.ensures (c.never_shows.ensures.never is) in
    let regular : AreRegular true t0 (t0 + 1 + later) w.parts.end = record {
      early = omega (arith, c.requires.regular.early, lt);
      short = λ t from less. c.requires.regular.short t (omega (arith, from, ge)) (omega (arith, less, lt));
    } in
    hidden b.second t0 c.requires.second ge (omega (arith, lt, c.later_minutes.ensures.count, long)) regular
    (subst (λ a. ShowsAnnouncement w (record { first = t0; second = b.second; announced = a })) c.requires.announced shows)
