use Rattle.std.proofs.Common.{◌≡◌, ℕ, ◌+◌, ap, ◌∙◌, arith}
use Rattle.std.proofs.Math.Nat.{min-le_right}
use Rattle.walk_costs.specs.Walks.{cost_of}
use Rattle.field_tables.proofs.FloorLaws.{joined}
use Rattle.field_tables.proofs.station_floor.floor_across.Goals as goal

pub loop-t0-preserved : goal.loop-t0-preserved
loop-t0-preserved c =
    let w = c.args.walks.now in
    let b = c.args.block.now in
    let t0 : ℕ = c.loop-t0.t0 in
    let before = c.loop-t0.invariant in
    let cost = c.cost_across.result in
    let own = c.crossing_costs-crossing.ensures.walks in
    let is : cost ≡ cost_of w b.announced b.second t0 =
    c.cost_across.ensures.cost ∙ ap (λ a. cost_of w a c.crossing_costs-crossing.result.second t0) own.0 ∙ ap (λ p. cost_of w b.announced p t0) own.1 in
    record {
      none_less = joined w b c.args.t t0 (t0 + 1) c.loop-t0.least cost c.min-least.result c.min-least.ensures before.none_less
          (λ x ge lt. let same : x ≡ t0 = omega (arith, ge, lt) in omega (arith, is, ap (cost_of w b.announced b.second) same));
      small = λ _. omega (arith, c.cost_across.ensures.bound, c.min-least.ensures, min-le_right c.loop-t0.least cost);
    }
