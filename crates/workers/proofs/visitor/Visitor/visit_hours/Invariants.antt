-- A visit of a day's hours under way: those that are left make it whole.
use Rattle.std.proofs.Common.{◌≡◌, length}
use Rattle.std.specs.List.{AllByRecursion}
use Rattle.definitions.specs.declared.block.Span.TheVariants.{Hour}
use Rattle.definitions.specs.answers.Blocks.{children}
use Rattle.field_tables.specs.Scored.{costs_of}
use Rattle.workers.proofs.Walking.{IsWalking}
use Rattle.workers.proofs.visitor.Visitor.visit_hours.Given as goal

abbrev pub invariant-loop-hour : goal.invariant-loop-hour
invariant-loop-hour g l = record {
  race : l.seat.race ≡ l.fn.seat.race;
  tables : l.hours.tables ≡ l.self.tables.now;
  spans : AllByRecursion (λ c. c.span ≡ Hour) l.hours.left;
  walking : IsWalking g.K.Recorder.told (costs_of l.self.tables.now) l.self.tables.now.window l.self.ceiling (children l.day) l.fn.seat.view l.fn.recorder l.hours.left l.seat.view l.recorder;
}

abbrev pub decreases-loop-hour : goal.decreases-loop-hour
decreases-loop-hour g l = length l.hours.left
