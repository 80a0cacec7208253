use Rattle.std.proofs.Common.{Option, Some, ℕ, sym, subst}
use Rattle.field_tables.specs.Floors.{IsFloor}
use Rattle.field_tables.specs.Sums.{costs_by}
use Rattle.field_tables.proofs.FloorLaws.{joined_floors, whole_floor}
use Rattle.field_tables.proofs.sums.WindowSums.floor_at_leap_end.Goals as goal

pub returns-clause-floor : goal.returns-clause-floor
returns-clause-floor c =
    let sums = c.args.self.now in
    let b = c.args.block.now in
    subst (λ (o : Option ℕ). IsFloor (costs_by sums) sums.window b o) (sym c.lesser.ensures.floor)
    (whole_floor (costs_by sums) sums.window b _
    (joined_floors (costs_by sums) sums.window b b.lo c.max-cut.result b.hi c.floor_before-front.result (Some c.floor_from.result) c.floor_before-front.ensures.floor c.floor_from.ensures.floor))
