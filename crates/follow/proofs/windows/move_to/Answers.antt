-- A step from the window before, or none.
use Rattle.std.proofs.Common.{◌≡◌, ◌-◌, ◌≤◌, List, sym, subst, ◌∙◌, arith}
use Rattle.std.specs.Vec.{with_items}
use Rattle.std.proofs.lemmas.List.{with_items_is}
use Rattle.signal_base.specs.declared.window.Window.{Window}
use Rattle.definitions.specs.sequences.Windows.{IsWindow}
use Rattle.symbol_cost.specs.Grid.{Grid}
use Rattle.follow_due.specs.Windows.{window_after}
use Rattle.bank.specs.Hearing.{AreBankGrids, later_window}
use Rattle.follow.proofs.StepLaws.{before_in_range, grids_at, moved_grids, step_in_time, window_stays_in_range}
use Rattle.follow.proofs.windows.move_to.Goals as goal

pub advance_grids-requires-clause-window : goal.advance_grids-requires-clause-window
advance_grids-requires-clause-window c =
    subst (λ (w : Window). IsWindow w) (sym c.window_after-before.ensures) (before_in_range c.args.first.now c.args.step c.args.i c.requires.window c.requires.start)

pub advance_grids-requires-clause-start : goal.advance_grids-requires-clause-start
advance_grids-requires-clause-start c =
    let some : 1 ≤ c.args.i = omega arith in
    rw c.window_after-before.ensures (step_in_time c.args.first.now c.args.step c.args.i some c.requires.start)

pub advance_grids-requires-clause-grids : goal.advance_grids-requires-clause-grids
advance_grids-requires-clause-grids c =
    rw (c.as_mut_slice.ensures.value, c.window_after-before.ensures) c.requires.grids

pub returns-then-i-eq0-clause-in_range : goal.returns-then-i-eq0-clause-in_range
returns-then-i-eq0-clause-in_range c =
    subst (λ (w : Window). IsWindow w) (sym c.window_after-window.ensures) (window_stays_in_range c.args.first.now c.args.step c.args.i c.requires.window c.requires.start)

pub returns-then-i-eq0-clause-grids : goal.returns-then-i-eq0-clause-grids
returns-then-i-eq0-clause-grids c =
    let i = c.args.i in
    let bank = c.args.bank.now in
    let none : i - 1 ≡ i = omega (arith, c.if-i-eq0.true) in
    subst (λ (w : Window). AreBankGrids bank w c.args.grids.now.items) (sym c.window_after-window.ensures)
    (grids_at bank c.args.first.now c.args.step (i - 1) i c.args.grids.now.items none c.requires.grids)

pub returns-clause-in_range : goal.returns-clause-in_range
returns-clause-in_range c =
    subst (λ (w : Window). IsWindow w) (sym c.window_after-window.ensures) (window_stays_in_range c.args.first.now c.args.step c.args.i c.requires.window c.requires.start)

pub returns-clause-grids : goal.returns-clause-grids
returns-clause-grids c =
    let some : 1 ≤ c.args.i = omega arith in
    let bank = c.args.bank.now in
    let rows = c.advance_grids.new.grids in
    let written : (with_items c.args.grids.now rows).items ≡ rows = with_items_is c.args.grids.now rows (c.advance_grids.ensures.many ∙ c.as_mut_slice.ensures.len) in
    let moved = subst (λ (w : Window). AreBankGrids bank (later_window w c.args.step) rows) c.window_after-before.ensures c.advance_grids.ensures.grids in
    subst (λ (w : Window). AreBankGrids bank w (with_items c.args.grids.now rows).items) (sym c.window_after-window.ensures)
    (subst (λ (gs : List Grid). AreBankGrids bank (window_after c.args.first.now c.args.step c.args.i) gs) (sym written)
    (moved_grids bank c.args.first.now c.args.step c.args.i rows some moved))
