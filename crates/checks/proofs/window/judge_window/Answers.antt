-- What came of the file by the tables came of it by the grids.
use Rattle.std.proofs.Common.{List, sym, ◌∙◌, ap, subst}
use Rattle.signal_base.specs.declared.window.Window.{Window}
use Rattle.definitions.specs.answers.Blocks.{items}
use Rattle.field_tables.specs.Grids.{grid_costs}
use Rattle.symbol_cost.specs.Grid.{Grid}
use Rattle.certificate_judge.specs.Outcomes.{IsOutcome}
use Rattle.checks.proofs.window.judge_window.Goals as goal

pub judge_file-requires-clause-items : goal.judge_file-requires-clause-items
judge_file-requires-clause-items g c =
    c.as_slice.ensures.value ∙ c.in_ok-list.ensures.value ∙ ap items (sym c.in_ok-tables.ensures.window)

pub returns-clause-outcome : goal.returns-clause-outcome
returns-clause-outcome g c =
    let (bytes, found, is) = c.in_ok-outcome.ensures.outcome in (
      bytes,
      found,
      subst (λ (w : Window). IsOutcome (grid_costs c.args.grids.now) w c.args.ceiling bytes c.in_ok-outcome.outcome) c.in_ok-tables.ensures.window
          (subst (λ (gs : List Grid). IsOutcome (grid_costs gs) c.in_ok-tables.tables.window c.args.ceiling bytes c.in_ok-outcome.outcome) c.in_ok-tables.ensures.grids is),
    )
