-- The tables are of the window at the offset, and the keys are those that they find.
use Rattle.std.proofs.Common.{◌≡◌, List, refl, sym, ◌∙◌, subst}
use Rattle.signal_base.specs.declared.window.Window.{Window}
use Rattle.definitions.specs.answers.FirstTwo.{AreLeastTwo, IsWindowKey}
use Rattle.field_tables.specs.Grids.{AreGrids, HaveCosts}
use Rattle.field_tables.specs.Scopes.{scopes_of}
use Rattle.field_tables.specs.Scored.{costs_of}
use Rattle.symbol_cost.specs.Grid.{Grid}
use Rattle.due.specs.Banks.{costs_in}
use Rattle.bank.specs.Hearing.{bank_seen}
use Rattle.sweep.proofs.kept.keep_phase.Goals as goal

pub make-requires-clause-parts : goal.make-requires-clause-parts
make-requires-clause-parts g c =
    subst (λ (w : Window). c.args.parts.now ≡ scopes_of w.stations w.seconds) (sym c.requires.heard.window_is) c.requires.parts

pub returns-clause-kept : goal.returns-clause-kept
returns-clause-kept g c =
    let h = c.args.heard.now in
    let bank = bank_seen c.args.bank.now in
    let tables = c.in_ok-tables.tables in
    let found = c.in_ok-found.found in
    let same = c.in_ok-tables.ensures.grids ∙ c.as_slice.ensures.value in
    record {
      small = c.requires.heard.small;
      swept = c.requires.heard.swept;
      name_is = c.in_ok-name.ensures;
      window_is = c.requires.heard.window_is;
      ceiling_is = refl;
      tables_are = c.in_ok-tables.ensures.window;
      fits = c.requires.heard.fits;
      grids = subst (λ (gs : List Grid). AreGrids h.window gs) (sym same) c.requires.heard.grids;
      costs = subst (λ (gs : List Grid). HaveCosts h.window gs (costs_in h.window bank)) (sym same) c.requires.heard.costs;
      named = subst (λ (w : Window). AreLeastTwo (IsWindowKey w (costs_of tables) c.args.bank.now.ceiling) found.first found.second) c.in_ok-tables.ensures.window c.in_ok-found.ensures;
    }
