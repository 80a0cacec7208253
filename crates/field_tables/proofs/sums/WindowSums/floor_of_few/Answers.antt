use Rattle.std.proofs.Common.{ℕ, ◌+◌, Some, sym, subst, arith}
use Rattle.std.proofs.Math.Nat.{min-le_left}
use Rattle.field_tables.specs.Floors.{IsFloor, piece}
use Rattle.field_tables.specs.Sums.{costs_by}
use Rattle.field_tables.proofs.FloorLaws.{empty_floor, joined_floors}
use Rattle.field_tables.proofs.sums.WindowSums.floor_of_few.Goals as goal

pub loop-t-init : goal.loop-t-init
loop-t-init c =
    let sums = c.args.self.now in
    record { floor = empty_floor (costs_by sums) sums.window c.args.block.now c.args.lo 1_920_000_000; small = omega arith }

pub loop-t-preserved : goal.loop-t-preserved
loop-t-preserved c =
    let sums = c.args.self.now in
    let b = c.args.block.now in
    let t : ℕ = c.loop-t.t in
    record {
      floor = subst (λ n. IsFloor (costs_by sums) sums.window (piece b c.args.lo (t + 1)) (Some n)) (sym c.min-least.ensures)
          (joined_floors (costs_by sums) sums.window b c.args.lo t (t + 1) (Some c.loop-t.least) (Some c.floor_of_minute.result) c.loop-t.invariant.floor c.floor_of_minute.ensures.floor);
      small = omega (arith, c.min-least.ensures, min-le_left c.loop-t.least c.floor_of_minute.result, c.loop-t.invariant.small);
    }
