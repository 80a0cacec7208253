use Rattle.std.proofs.Common.{◌≡◌, ◌++◌, Bool, true, false, List, filter, refl, not, sym, ap, ◌∙◌, subst}
use Rattle.std.specs.List.{AllByRecursion}
use Rattle.std.specs.List.Sorted.{IsPermutation}
use Rattle.std.proofs.lemmas.List.Elements.{All-filter, All-from_recursion, recursion_from_All}
use Rattle.std.proofs.lemmas.List.Sorted.{IsPermutation-append_left, IsPermutation-filter_both, IsPermutation-trans}
use Rattle.definitions.specs.answers.Blocks.{IsBlock}
use Rattle.definitions.specs.declared.block.Block.{Block}
use Rattle.bounds.proofs.ranking.announced_last.Goals as goal

twice : (b : Bool) → b ≡ not (not b)
twice true = refl
twice false = refl

abbrev others : List Block → List Block
others blocks = filter (λ b. not b.announced) blocks

abbrev announced : List Block → List Block
announced blocks = filter (λ b. b.announced) blocks

parted : (blocks front list : List Block) → IsPermutation (others blocks) front → list ≡ front ++ announced blocks → IsPermutation blocks list
parted blocks front list same is =
    subst (λ (xs : List Block). IsPermutation blocks xs) (sym is)
    (IsPermutation-trans blocks (others blocks ++ announced blocks) (front ++ announced blocks)
    (IsPermutation-filter_both (λ b. not b.announced) (λ b. b.announced) (λ b. twice b.announced) blocks)
    (IsPermutation-append_left (announced blocks) (others blocks) front same))

pub ranked-requires : goal.ranked-requires
ranked-requires c =
    let is_block = IsBlock c.args.tables.now.window in
    let blocks = c.args.blocks.now in
    let each = All-filter (λ (b : Block). not b.announced) is_block blocks (All-from_recursion is_block blocks c.requires) in
    subst (λ (xs : List Block). AllByRecursion is_block xs) (sym (c.deref.ensures.value ∙ c.in_ok-others.ensures)) (recursion_from_All is_block (others blocks) each)

pub returns-clause-same : goal.returns-clause-same
returns-clause-same c =
    let blocks = c.args.blocks.now in
    let front = c.in_ok-front.front.items in
    parted blocks front c.in_ok-list.list.items
    (subst (λ (xs : List Block). IsPermutation xs front) (c.deref.ensures.value ∙ c.in_ok-others.ensures) c.in_ok-front.ensures.same)
    (c.in_ok-list.ensures ∙ ap (λ (xs : List Block). xs ++ announced blocks) c.deref-2.ensures.value)

pub returns-clause-parted : goal.returns-clause-parted
returns-clause-parted c =
    let blocks = c.args.blocks.now in
    let front = c.in_ok-front.front.items in
    record {
      front = front;
      same = subst (λ (xs : List Block). IsPermutation xs front) (c.deref.ensures.value ∙ c.in_ok-others.ensures) c.in_ok-front.ensures.same;
      ranked = c.in_ok-front.ensures.in_order;
      parted = c.in_ok-list.ensures ∙ ap (λ (xs : List Block). xs ++ announced blocks) c.deref-2.ensures.value;
    }
