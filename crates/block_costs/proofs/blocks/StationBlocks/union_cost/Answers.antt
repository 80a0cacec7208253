use Rattle.std.proofs.Common.{◌≡◌, ◌+◌, ◌-◌, ◌<◌, ◌≤◌, ℕ, false, true, length, ap, ◌∙◌, refl, subst, arith}
use Rattle.definitions.specs.codes.Allowed.{allowed}
use Rattle.definitions.specs.time.Calendar.{minute_length}
use Rattle.minute_parts.specs.Walks.{later_minutes}
use Rattle.walk_costs.specs.Walks.{PricedParts}
use Rattle.block_costs.specs.Blocks.{AreUnionsOfWalks}
use Rattle.block_costs.proofs.HourLaws.{unannounced_unions}
use Rattle.block_costs.proofs.blocks.StationBlocks.union_cost.Goals as goal

pub returns-then-never_shows-clause-cost : goal.returns-then-never_shows-clause-cost
returns-then-never_shows-clause-cost c = λ sets unions.
    let w = c.args.self.now in
    let b = c.args.walks.now in
    let n : ℕ = length w.grid.rows in
    let later : c.later_minutes.result ≡ later_minutes n b.second = c.later_minutes.ensures.count ∙ ap (λ (v : PricedParts). later_minutes (length v.grid.rows) b.second) c.self.view_is in
    let reached = ap (λ (v : PricedParts). later_minutes (length v.grid.rows) b.second) c.requires in
    let same = subst (λ (v : PricedParts). (t s : ℕ) → b.lo ≤ t → t ≤ b.hi - 1 + c.later_minutes.result → minute_length true t ≡ 60 → s < 60
    → allowed v.grid.station true (t, s) ≡ allowed v.grid.station false (t, s)) c.self.view_is (c.never_shows.ensures.alike c.if-never_shows.true) in
    let announced = subst (λ a. AreUnionsOfWalks w.grid.station a b.second b.lo b.hi n sets) c.if-not-walks.false unions in
    c.unannounced_cost-then-never_shows.ensures.cost sets
    (unannounced_unions w.grid.station b.second b.lo b.hi n c.later_minutes.result sets b.in_a_minute later
    (λ t s ge le lt. same t s ge le (subst (λ a. minute_length a t ≡ 60) c.if-not-walks.false (b.regular.short t ge (omega (arith, le, later, reached, b.some)))) lt) announced)

pub returns-then-walks-clause-cost : goal.returns-then-walks-clause-cost
returns-then-walks-clause-cost c = λ sets unions.
    let w = c.args.self.now in
    let b = c.args.walks.now in
    let end : b.hi ≡ b.lo + 60 = omega (arith, c.if-walks.true, b.some) in
    c.hour_cost.ensures.cost_is sets (subst (λ e. AreUnionsOfWalks w.grid.station b.announced b.second b.lo e (length w.grid.rows) sets) end unions)
