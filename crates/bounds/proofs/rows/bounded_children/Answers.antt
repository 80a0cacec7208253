use Rattle.std.proofs.Common.{subst, sym}
use Rattle.std.specs.List.{AllByRecursion}
use Rattle.definitions.specs.answers.Blocks.{IsBlock}
use Rattle.definitions.proofs.BlockLaws.{children_are_blocks}
use Rattle.bounds.proofs.rows.bounded_children.Goals as goal

pub invariant_of-result : goal.invariant_of-result
invariant_of-result c =
    let window = c.args.tables.now.window in
    subst (λ bs. AllByRecursion (IsBlock window) bs) (sym c.children.ensures) (children_are_blocks window c.args.block.now c.know_the_window.ensures.century c.requires)
