-- What holds of the items of a window in any order.
use Rattle.std.proofs.Common.{◌≡◌, List, IsPermutation, sym, subst}
use Rattle.std.specs.List.{AllByRecursion}
use Rattle.std.proofs.lemmas.List.Elements.{All-from_recursion, recursion_from_All}
use Rattle.std.proofs.lemmas.List.Sorted.{All-permutation}
use Rattle.signal_base.specs.declared.window.Window.{Window}
use Rattle.definitions.specs.declared.block.Block.{Block}
use Rattle.definitions.specs.answers.Blocks.{IsBlock, items}
use Rattle.workers.specs.Searches.{AreItemsOf}

-- the items in another order are the items still
pub still_items : (window other : Window) (ws zs : List Block) → other ≡ window → ws ≡ items window → IsPermutation ws zs → AreItemsOf other zs
still_items window other ws zs same are moved =
    subst (λ (w : Window). AreItemsOf w zs) (sym same) (subst (λ (list : List Block). IsPermutation list zs) are moved)

-- blocks in another order are blocks still
pub still_blocks : (window other : Window) (ws zs : List Block) → other ≡ window → AllByRecursion (IsBlock window) ws → IsPermutation ws zs
    → AllByRecursion (IsBlock other) zs
still_blocks window other ws zs same each moved =
    subst (λ (w : Window). AllByRecursion (IsBlock w) zs) (sym same)
    (recursion_from_All (IsBlock window) zs (All-permutation (IsBlock window) ws zs moved (All-from_recursion (IsBlock window) ws each)))
