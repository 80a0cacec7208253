-- A visit of a block's children under way: those that are left make it whole, and each is of the next shorter span.
use Rattle.std.proofs.Common.{◌≡◌, length}
use Rattle.std.specs.List.{AllByRecursion}
use Rattle.definitions.specs.answers.Blocks.{children, shorter}
use Rattle.field_tables.specs.Scored.{costs_of}
use Rattle.workers.specs.Steps.{depth}
use Rattle.workers.proofs.Walking.{IsWalking}
use Rattle.workers.proofs.visitor.Visitor.+visit_children.Given as goal

abbrev pub decreases-visit_children : goal.decreases-visit_children
decreases-visit_children g l = depth l.block.now.span

abbrev pub invariant-loop-child : goal.invariant-loop-child
invariant-loop-child g l = record {
  race : l.seat.race ≡ l.fn.seat.race;
  tables : l.children.tables ≡ l.self.tables.now;
  spans : AllByRecursion (λ c. c.span ≡ shorter l.block.span) l.children.left;
  walking : IsWalking g.K.Recorder.told (costs_of l.self.tables.now) l.self.tables.now.window l.self.ceiling (children l.block) l.fn.seat.view l.fn.recorder l.children.left l.seat.view l.recorder;
}

abbrev pub decreases-loop-child : goal.decreases-loop-child
decreases-loop-child g l = length l.children.left
