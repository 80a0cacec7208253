use Rattle.std.proofs.Common.{subst}
use Rattle.signal_base.specs.declared.window.Window.{Window}
use Rattle.field_tables.specs.Quiet.{AreQuiet}
use Rattle.field_tables.proofs.tables.Tables.made.Goals as goal

pub invariant_of-result : goal.invariant_of-result
invariant_of-result c = (
  record {
    is_window = c.requires.window;
    are_grids = c.requires.grids;
    same = c.in_ok-sums.ensures.window;
    agree = c.in_ok-sums.ensures.costs;
  },
  subst (λ (w : Window). AreQuiet w c.in_ok-loud.loud.items) c.in_ok-sums.ensures.window c.in_ok-loud.ensures,
)
