-- A legal sequence of the minute costs what its first one does.
use Rattle.std.proofs.Common.{arith}
use Rattle.field_tables.specs.Sums.{costs_by}
use Rattle.field_tables.proofs.FloorLaws.{floor_of_cost}
use Rattle.field_tables.proofs.sums.WindowSums.floor_of_minute.Goals as goal

pub overflow_add-minute : goal.overflow_add-minute
overflow_add-minute c = omega (arith, c.requires.within, c.requires.block.no_later, c.end.ensures.sums.window.century)

pub leap_minute_cost-requires-clause-block : goal.leap_minute_cost-requires-clause-block
leap_minute_cost-requires-clause-block c =
    record {
      second = c.requires.block.second;
      not_empty = omega arith;
      not_before = omega (arith, c.requires.block.not_before, c.requires.begun);
      no_later = omega (arith, c.requires.within, c.requires.block.no_later);
    }

pub returns-clause-floor : goal.returns-clause-floor
returns-clause-floor c =
    let sums = c.args.self.now in
    floor_of_cost (costs_by sums) sums.window c.args.block.now c.args.t c.in-Some.cost c.in-Some.ensures.cost
