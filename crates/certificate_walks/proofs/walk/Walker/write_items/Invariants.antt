-- The items from this one on are due.
use Rattle.std.proofs.Common.{◌≤◌, ◌-◌, drop, length}
use Rattle.certificate_walks.specs.Walking.{Course, IsUnderWay, walk_at}
use Rattle.certificate_walks.proofs.walk.Walker.write_items.Given as goal

abbrev pub invariant-loop-i : goal.invariant-loop-i
invariant-loop-i g l = record {
  within : l.i ≤ length l.items;
  under_way : (course : Course)
      → IsUnderWay (walk_at l.self.name.now l.self.tables.now l.self.limit) course (g.F.Files.view l.fn.files) l.fn.held.bytes l.items l.fn.steps
      → IsUnderWay (walk_at l.self.name.now l.self.tables.now l.self.limit) course (g.F.Files.view l.files) l.held.bytes (drop l.i l.items) l.steps;
}

abbrev pub decreases-loop-i : goal.decreases-loop-i
decreases-loop-i g l = length l.items - l.i
