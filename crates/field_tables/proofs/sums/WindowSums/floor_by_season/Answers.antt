use Rattle.std.proofs.Common.{ℕ, ◌+◌, ◌-◌, ◌*◌, ◌/◌, ◌<◌, ◌≤◌, arith}
use Rattle.std.proofs.Math.Nat.{min-le_right}
use Rattle.definitions.specs.heard.Costs.{sequence_cost}
use Rattle.minute_parts.specs.Walks.{reach}
use Rattle.field_tables.specs.Minutes.{sequence_at}
use Rattle.field_tables.specs.Sums.{costs_by}
use Rattle.field_tables.proofs.SeasonFloorLaws.{both_pieces, in_last, in_whole_day}
use Rattle.field_tables.proofs.sums.WindowSums.floor_by_season.Goals as goal
use Rattle.field_tables.proofs.sums.WindowSums.floor_by_season.Goals.{After-later_minutes}

pub overflow_mul-stay : goal.overflow_mul-stay
overflow_mul-stay c =
    let b = c.args.block.now in
    let last : b.hi - 1 < c.args.self.now.end = omega (arith, c.requires.order, c.requires.encoded) in
    let encoded = (c.end-day.ensures.sums.end (b.hi - 1)).0 last in
    omega (arith, encoded.0, c.requires.order)

few : (c : After-later_minutes) → reach c.args.self.now.window c.args.block.now ≤ 20
few c = omega (arith, c.later_minutes.ensures.count, c.later_minutes.ensures.bound)

pub floor_in-requires-clause-here : goal.floor_in-requires-clause-here
floor_in-requires-clause-here c = in_whole_day (reach c.args.self.now.window c.args.block.now) c.args.block.now.lo c.args.block.now.hi

pub floor_in-requires-2-clause-here : goal.floor_in-requires-2-clause-here
floor_in-requires-2-clause-here c =
    let b = c.args.block.now in
    let known = (goal.at.floor_in-requires-2-clause-here c).After-later_minutes in
    let stay : ℕ = (b.lo / 1440 + 1) * 1440 - c.later_minutes.result in
    let fits : c.min-end.result + reach c.args.self.now.window b ≤ (b.lo / 1440 + 1) * 1440 =
    omega (arith, c.min-end.ensures, min-le_right b.hi stay, c.later_minutes.ensures.count, c.later_minutes.ensures.bound) in
    c.piece_of.ensures.here (reach c.args.self.now.window b) (few known) fits

pub floor_in-requires-3-clause-here : goal.floor_in-requires-3-clause-here
floor_in-requires-3-clause-here c =
    let b = c.args.block.now in
    let known = (goal.at.floor_in-requires-3-clause-here c).After-later_minutes in
    in_last (reach c.args.self.now.window b) (b.lo / 1440) c.max.result b.hi (few known)
    (omega (arith, c.max.ensures, c.later_minutes.ensures.count, c.later_minutes.ensures.bound)) (omega (arith, c.if-block-day.false))

pub returns-clause-floor : goal.returns-clause-floor
returns-clause-floor c =
    let sums = c.args.self.now in
    let b = c.args.block.now in
    both_pieces (λ t0. sequence_cost (costs_by sums) sums.window (sequence_at b t0)) b.lo ((b.lo / 1440 + 1) * 1440 - c.later_minutes.result) b.hi c.min-end.result
    c.max.result c.in_ok-most.most c.in_ok-rest.rest c.min.result c.min-end.ensures c.max.ensures c.min.ensures c.in_ok-most.ensures.floor c.in_ok-rest.ensures.floor
