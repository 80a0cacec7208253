-- An item of the window is a block of it.
use Rattle.std.proofs.Common.{◌≤◌, sym, ap, subst, arith}
use Rattle.std.specs.List.{All}
use Rattle.std.proofs.lemmas.List.Elements.{All-from_recursion}
use Rattle.signal_base.specs.declared.window.Window.{Window}
use Rattle.definitions.specs.time.Calendar.{century_minutes}
use Rattle.definitions.specs.answers.Blocks.{items, IsBlock}
use Rattle.search_tests.proofs.items.item.Goals as goal

pub returns : goal.returns
returns c =
    let w = c.args.tables.now.window in
    let century : w.to ≤ century_minutes = omega (arith, c.window-window.ensures.ranges.century, ap (λ (w : Window). w.to) c.window-window.ensures.value) in
    let all = All-from_recursion (IsBlock w) (items w) (c.items_share_the_sequences.ensures.blocks w century) in
    let found = c.in_ok-item.ensures.lookup.3 in
    subst (IsBlock w) (sym (found.1 c.in_ok-item.item.now)) (subst (All (IsBlock w)) (sym c.requires) all c.args.number c.in_ok-item.item.now found.0)
