use Rattle.std.proofs.Common.{ap, ◌∙◌}
use Rattle.signal_base.specs.declared.window.Window.{Window}
use Rattle.definitions.specs.heard.Costs.{sequence_cost}
use Rattle.plain_costs.specs.Grids.{grid_costs}
use Rattle.plain_costs.proofs.AgreementLaws.{sequence_same}
use Rattle.field_tables.specs.Scored.{Scored, costs_of}
use Rattle.field_tables.specs.Sums.{costs_by}
use Rattle.field_tables.proofs.tables.Tables.cost.Goals as goal

pub returns-in-Some-clause-cost : goal.returns-in-Some-clause-cost
returns-in-Some-clause-cost c =
    let q = c.args.q.now in
    let inside = c.self.inside in
    c.in-Some.ensures.cost
    ∙ ap (λ (w : Window). sequence_cost (costs_by inside.sums) w q) c.self.invariant.0.same
    ∙ sequence_same inside.window (costs_by inside.sums) (grid_costs inside.grids.now) q c.self.invariant.0.agree
    ∙ ap (λ (s : Scored). sequence_cost (costs_of s) s.window q) c.self.view_is
