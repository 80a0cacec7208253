use Rattle.std.proofs.Common.{IsPermutation}
use Rattle.std.proofs.lemmas.Result.{IfOk-weaker}
use Rattle.workers.specs.Searches.{AreItemsOf}
use Rattle.bank.proofs.FirstTwoLaws.{still_items}
use Rattle.bank.proofs.first_two.search_order.Goals as goal

pub returns : goal.returns
returns c =
    IfOk-weaker c.announced_last.result (λ list. IsPermutation c.deref.result.now list.items) (λ list. AreItemsOf c.args.tables.now.window list.items)
    (λ list moved.
    still_items c.args.window.now c.args.tables.now c.in_ok-items.items.items c.deref.result.now list.items
    c.requires.same c.in_ok-items.ensures.value c.deref.ensures.value moved)
    c.announced_last.ensures.same
