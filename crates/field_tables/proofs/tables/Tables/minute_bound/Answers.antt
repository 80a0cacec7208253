-- By the sums, or else what its sequence costs.
use Rattle.std.proofs.Common.{subst}
use Rattle.signal_base.specs.declared.window.Window.{Window}
use Rattle.definitions.specs.answers.Blocks.{IsMinuteBound}
use Rattle.plain_costs.specs.Grids.{grid_costs}
use Rattle.field_tables.specs.Scored.{Scored, costs_of}
use Rattle.field_tables.specs.Sums.{costs_by}
use Rattle.field_tables.proofs.LegalLaws.{bound_agrees}
use Rattle.field_tables.proofs.tables.Tables.minute_bound.Goals as goal

pub returns-then-has_regular_walks-clause-bound : goal.returns-then-has_regular_walks-clause-bound
returns-then-has_regular_walks-clause-bound c =
    let inside = c.self.inside in
    let b = c.args.minute.now in
    let found = c.minute_bound.result in
    let by_sums = subst (λ (x : Window). IsMinuteBound (costs_by inside.sums) x b found) c.self.invariant.0.same c.minute_bound.ensures.bound in
    subst (λ (s : Scored). IsMinuteBound (costs_of s) s.window b found) c.self.view_is
    (bound_agrees inside.window (costs_by inside.sums) (grid_costs inside.grids.now) b found c.self.invariant.0.agree by_sums)

pub returns-then-legal-clause-bound : goal.returns-then-legal-clause-bound
returns-then-legal-clause-bound c = (c.legal.ensures.0 c.if-legal.true, c.cost.ensures.cost)

pub returns-in-Some-clause-bound : goal.returns-in-Some-clause-bound
returns-in-Some-clause-bound c =
    let inside = c.self.inside in
    let b = c.args.minute.now in
    let found = c.in-Some.bound in
    let by_sums = subst (λ (x : Window). IsMinuteBound (costs_by inside.sums) x b found) c.self.invariant.0.same c.in-Some.ensures.bound in
    subst (λ (s : Scored). IsMinuteBound (costs_of s) s.window b found) c.self.view_is
    (bound_agrees inside.window (costs_by inside.sums) (grid_costs inside.grids.now) b found c.self.invariant.0.agree by_sums)
