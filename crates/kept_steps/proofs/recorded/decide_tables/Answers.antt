-- The lists are those of a search of the window's items, which was finished.
use Rattle.std.proofs.Common.{◌≡◌, ℕ, ◌<◌, List, length, sym, subst}
use Rattle.definitions.specs.declared.block.Block.{Block}
use Rattle.field_tables.specs.Scored.{costs_of}
use Rattle.race_words.specs.Sound.{times}
use Rattle.kept_steps.specs.Kept.{AreKept}
use Rattle.kept_steps.proofs.recorded.decide_tables.Goals as goal

pub returns-clause-kept : goal.returns-clause-kept
returns-clause-kept g c =
    let t = c.args.tables.now in
    let view = c.search_recorded.new.seat.view in record {
      items = c.in_ok-order.order.items;
      view = view;
      are_items = c.in_ok-order.ensures;
      kept = subst (λ (items : List Block). AreKept (costs_of t) t.window c.args.ceiling items c.args.workers view c.in_ok-lists.lists.items)
          c.deref.ensures.value c.in_ok-lists.ensures.kept;
      drawn = subst (λ (items : List Block). (number : ℕ) → number < length items → times number view.drawn ≡ 1) c.deref-2.ensures.value c.finish-found.ensures.drawn;
      not_below = c.finish-found.ensures.reads;
    }
