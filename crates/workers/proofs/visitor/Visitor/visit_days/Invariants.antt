-- A visit of a year's days under way: those that are left make it whole.
use Rattle.std.proofs.Common.{◌≡◌, length}
use Rattle.std.specs.List.{AllByRecursion}
use Rattle.definitions.specs.declared.block.Span.TheVariants.{Day}
use Rattle.definitions.specs.answers.Blocks.{children}
use Rattle.field_tables.specs.Scored.{costs_of}
use Rattle.workers.proofs.Walking.{IsWalking}
use Rattle.workers.proofs.visitor.Visitor.visit_days.Given as goal

abbrev pub invariant-loop-day : goal.invariant-loop-day
invariant-loop-day g l = record {
  race : l.seat.race ≡ l.fn.seat.race;
  tables : l.days.tables ≡ l.self.tables.now;
  spans : AllByRecursion (λ c. c.span ≡ Day) l.days.left;
  walking : IsWalking g.K.Recorder.told (costs_of l.self.tables.now) l.self.tables.now.window l.self.ceiling (children l.year) l.fn.seat.view l.fn.recorder l.days.left l.seat.view l.recorder;
}

abbrev pub decreases-loop-day : goal.decreases-loop-day
decreases-loop-day g l = length l.days.left
