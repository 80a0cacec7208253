-- How many looks the read counts as.
use Rattle.field_tables.specs.Scored.{costs_of}
use Rattle.workers.proofs.Passing.{more_looks}
use Rattle.workers.proofs.visitor.Visitor.pass_over.Given as goal

abbrev pub ghosts-look : goal.ghosts-look
ghosts-look a =
    let s = a.self.now in
    record { often = λ seen. more_looks (costs_of s.tables.now) s.tables.now.window s.ceiling a.block.now a.floor seen }
