use Rattle.std.proofs.Common.{ℕ, None, Option, sym, subst, arith}
use Rattle.field_tables.specs.Floors.{IsFloor, piece}
use Rattle.field_tables.specs.Scored.{costs_of}
use Rattle.field_tables.proofs.FloorLaws.{joined_floors, none_of_none, on_to}
use Rattle.field_tables.proofs.tables.Tables.floor_of_announced_days.Goals as goal

pub loop-t-init : goal.loop-t-init
loop-t-init c =
    let scored = c.args.self.now in
    let b = c.args.block.now in
    let first = c.behind_quiet_days-t in
    record {
      begun = first.ensures.begun;
      within = first.ensures.within;
      floor = on_to (costs_of scored) scored.window b b.lo b.lo first.result None c.requires.announced
          (none_of_none (costs_of scored) scored.window b b.lo) first.ensures.quiet;
      small = record {};
    }

pub loop-t-preserved : goal.loop-t-preserved
loop-t-preserved c =
    let scored = c.args.self.now in
    let b = c.args.block.now in
    let t : ℕ = c.loop-t.t in
    let end : ℕ = c.min-end.result in
    let before = c.loop-t.invariant in
    let day = c.floor_of_minutes-least in
    let next = c.behind_quiet_days-t-in-loop-t in
    record {
      begun = omega (arith, before.begun, c.min-end.ensures, c.loop-t-test.true, next.ensures.begun);
      within = next.ensures.within;
      floor = on_to (costs_of scored) scored.window b b.lo end next.result c.lesser-floor.result c.requires.announced
          (subst (λ (o : Option ℕ). IsFloor (costs_of scored) scored.window (piece b b.lo end) o) (sym c.lesser-floor.ensures.floor)
          (joined_floors (costs_of scored) scored.window b b.lo t end c.loop-t.floor day.result before.floor day.ensures.floor)) next.ensures.quiet;
      small = c.lesser-floor.ensures.small before.small day.ensures.small;
    }
