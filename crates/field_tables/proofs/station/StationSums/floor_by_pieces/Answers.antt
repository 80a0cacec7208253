use Rattle.std.proofs.Common.{◌≤◌, subst, arith}
use Rattle.std.proofs.Math.Nat.{min-le_right}
use Rattle.slot_columns.specs.Parts.{most_cost}
use Rattle.walk_costs.specs.Walks.{PricedParts}
use Rattle.field_tables.specs.Floors.{CostAtLeast}
use Rattle.field_tables.proofs.FloorLaws.{joined}
use Rattle.field_tables.proofs.station.StationSums.floor_by_pieces.Goals as goal

pub loop-t-init : goal.loop-t-init
loop-t-init c = record {
  begun = omega arith;
  none_less = λ t0 ge lt. absurd (omega (arith, ge, lt));
  small = λ some. absurd (omega (arith, some));
}

pub loop-t-preserved : goal.loop-t-preserved
loop-t-preserved c =
    let w = c.args.self.now in
    let b = c.args.block.now in
    let before = c.loop-t.invariant in
    let piece = c.piece_from-piece.result in
    let here = subst (λ (v : PricedParts). CostAtLeast v b c.loop-t.t piece.end piece.floor) c.walks-walks.ensures c.piece_from-piece.ensures.floor in
    let few = subst (λ (v : PricedParts). piece.floor ≤ most_cost v.grid) c.walks-walks.ensures c.piece_from-piece.ensures.small in
    record {
      begun = omega (arith, before.begun, c.piece_from-piece.ensures.more);
      none_less = joined w b b.lo c.loop-t.t piece.end c.loop-t.floor piece.floor c.min-floor.result c.min-floor.ensures before.none_less here;
      small = λ _. omega (arith, few, c.min-floor.ensures, min-le_right c.loop-t.floor piece.floor);
    }

pub returns-clause-floor : goal.returns-clause-floor
returns-clause-floor c = λ t0 ge lt. c.loop-t.invariant.none_less t0 ge (omega (arith, lt, c.loop-t-test.false))

pub returns-clause-small : goal.returns-clause-small
returns-clause-small c = c.loop-t.invariant.small (omega (arith, c.requires.order, c.loop-t-test.false))
