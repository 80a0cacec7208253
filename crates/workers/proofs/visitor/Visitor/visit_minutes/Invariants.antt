-- A visit of an hour's minutes under way: those that are left make it whole.
use Rattle.std.proofs.Common.{◌≡◌, length}
use Rattle.std.specs.List.{AllByRecursion}
use Rattle.definitions.specs.declared.block.Span.TheVariants.{Minute}
use Rattle.definitions.specs.answers.Blocks.{children}
use Rattle.field_tables.specs.Scored.{costs_of}
use Rattle.workers.proofs.Walking.{IsWalking}
use Rattle.workers.proofs.visitor.Visitor.visit_minutes.Given as goal

abbrev pub invariant-loop-minute : goal.invariant-loop-minute
invariant-loop-minute g l = record {
  race : l.seat.race ≡ l.fn.seat.race;
  tables : l.minutes.tables ≡ l.self.tables.now;
  spans : AllByRecursion (λ c. c.span ≡ Minute) l.minutes.left;
  walking : IsWalking g.K.Recorder.told (costs_of l.self.tables.now) l.self.tables.now.window l.self.ceiling (children l.hour) l.fn.seat.view l.fn.recorder l.minutes.left l.seat.view l.recorder;
}

abbrev pub decreases-loop-minute : goal.decreases-loop-minute
decreases-loop-minute g l = length l.minutes.left
