use Rattle.std.proofs.Common.{refl, ap, sym, ◌∙◌}
use Rattle.definitions.specs.answers.Blocks.{children_by}
use Rattle.bounds.proofs.BlockLists.{none_asked}
use Rattle.bounds.proofs.parts.children.Goals as goal

pub returns-in-Minute : goal.returns-in-Minute
returns-in-Minute c =
    let b = c.args.block.now in
    c.parts-in-Minute.ensures ∙ none_asked b.announced b.second _ 0 b.lo b.hi refl ∙ sym (ap (λ s. children_by s b) c.in-Minute.is)
