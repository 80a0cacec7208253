use Rattle.std.proofs.Common.{ℕ, ◌≡◌, ◌+◌, Some, sym, subst, arith}
use Rattle.std.proofs.Math.Nat.{min-le_left}
use Rattle.field_tables.specs.Floors.{IsFloor, piece}
use Rattle.field_tables.specs.Sums.{costs_by}
use Rattle.field_tables.proofs.FloorLaws.{empty_floor, joined_floors}
use Rattle.field_tables.proofs.sums.WindowSums.floor_from.Goals as goal

pub loop-t-init : goal.loop-t-init
loop-t-init c =
    let sums = c.args.self.now in
    record {
      begun = omega arith;
      within = c.requires.within;
      floor = empty_floor (costs_by sums) sums.window c.args.block.now c.args.cut 1_920_000_000;
      small = omega arith;
    }

pub loop-t-preserved : goal.loop-t-preserved
loop-t-preserved c =
    let sums = c.args.self.now in
    let b = c.args.block.now in
    let t : ℕ = c.loop-t.t in
    let end : ℕ = c.min-end.result in
    let before = c.loop-t.invariant in
    record {
      begun = omega (arith, before.begun, c.min-end.ensures, c.loop-t-test.true);
      within = omega (arith, c.min-end.ensures, min-le_left b.hi (t + 2));
      floor = subst (λ n. IsFloor (costs_by sums) sums.window (piece b c.args.cut end) (Some n)) (sym c.min-least.ensures)
          (joined_floors (costs_by sums) sums.window b c.args.cut t end (Some c.loop-t.least) (Some c.floor_of_few.result) before.floor c.floor_of_few.ensures.floor);
      small = omega (arith, c.min-least.ensures, min-le_left c.loop-t.least c.floor_of_few.result, before.small);
    }

pub returns-clause-floor : goal.returns-clause-floor
returns-clause-floor c =
    let sums = c.args.self.now in
    let b = c.args.block.now in
    let all : c.loop-t.t ≡ b.hi = omega (arith, c.loop-t-test.false, c.loop-t.invariant.within) in
    subst (λ t. IsFloor (costs_by sums) sums.window (piece b c.args.cut t) (Some c.loop-t.least)) all c.loop-t.invariant.floor
