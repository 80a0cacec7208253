-- No block waits, and all items were begun.
use Rattle.std.proofs.Common.{◌≡◌, List, [], sym, subst, rules}
use Rattle.std.specs.List.{AllByRecursion}
use Rattle.definitions.specs.declared.block.Block.{Block}
use Rattle.certificates.specs.Validity.{IsOneOf}
use Rattle.certificate_walks.specs.Waiting.{left_of}
use Rattle.certificate_judge.specs.Marks.{AreMarked}
use Rattle.certificate_judge.proofs.due_blocks.DueBlocks.is_over.Goals as goal

pub returns : goal.returns
returns c = λ begun are.
    let s = c.args.self.now in
    let empty : left_of s.pending ≡ [] = search rules in
    let all = c.all.ensures begun (subst (λ (bs : List Block). AreMarked bs s.begun.marks begun) (sym s.items_are) are) in (
      λ is. (empty, subst (λ (bs : List Block). AllByRecursion (IsOneOf begun) bs) s.items_are (all.0 is)),
      λ over. all.1 (subst (λ (bs : List Block). AllByRecursion (IsOneOf begun) bs) (sym s.items_are) over.1),
    )
