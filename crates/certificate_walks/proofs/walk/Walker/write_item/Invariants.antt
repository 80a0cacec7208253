-- What waits is due, and then the rest.
use Rattle.std.proofs.Common.{◌≡◌, ◌∷◌, ◌++◌, List}
use Rattle.definitions.specs.declared.block.Block.{Block}
use Rattle.certificate_walks.specs.Waiting.{left_most, left_of}
use Rattle.certificate_walks.specs.Walking.{Course, IsUnderWay, walk_at}
use Rattle.certificate_walks.proofs.walk.Walker.write_item.Given as goal

abbrev pub invariant-loop-next : goal.invariant-loop-next
invariant-loop-next g l = record {
  tables : l.pending.tables ≡ l.self.tables.now;
  under_way : (course : Course) (rest : List Block)
      → IsUnderWay (walk_at l.self.name.now l.self.tables.now l.self.limit) course (g.F.Files.view l.fn.files) l.fn.held.bytes (l.item ∷ rest) l.fn.steps
      → IsUnderWay (walk_at l.self.name.now l.self.tables.now l.self.limit) course (g.F.Files.view l.files) l.held.bytes (left_of l.pending ++ rest) l.steps;
}

abbrev pub decreases-loop-next : goal.decreases-loop-next
decreases-loop-next g l = left_most l.pending
