-- The order has each item once, and each is a block of the window.
use Rattle.std.proofs.Common.{List, IsPermutation, subst}
use Rattle.std.proofs.lemmas.Result.{IfOk-weaker}
use Rattle.std.specs.List.{AllByRecursion}
use Rattle.definitions.specs.declared.block.Block.{Block}
use Rattle.definitions.specs.answers.Blocks.{IsBlock}
use Rattle.workers.specs.Searches.{AreItemsOf}
use Rattle.search_bench.proofs.OrderLaws.{still_blocks, still_items}
use Rattle.search_bench.proofs.order.search_order.Goals as goal

pub returns-clause-items : goal.returns-clause-items
returns-clause-items c =
    let items = c.in_ok-items.items.items in
    IfOk-weaker c.announced_last.result (λ list. IsPermutation c.deref.result.now list.items) (λ list. AreItemsOf c.args.tables.now.window list.items)
    (λ list moved.
    still_items c.args.window.now c.args.tables.now.window items list.items c.requires.same c.in_ok-items.ensures.value
    (subst (λ (xs : List Block). IsPermutation xs list.items) c.deref.ensures.value moved))
    c.announced_last.ensures.same

pub returns-clause-blocks : goal.returns-clause-blocks
returns-clause-blocks c =
    let items = c.in_ok-items.items.items in
    IfOk-weaker c.announced_last.result (λ list. IsPermutation c.deref.result.now list.items)
    (λ list. AllByRecursion (IsBlock c.args.tables.now.window) list.items)
    (λ list moved.
    still_blocks c.args.window.now c.args.tables.now.window items list.items c.requires.same c.in_ok-items.ensures.blocks
    (subst (λ (xs : List Block). IsPermutation xs list.items) c.deref.ensures.value moved))
    c.announced_last.ensures.same
