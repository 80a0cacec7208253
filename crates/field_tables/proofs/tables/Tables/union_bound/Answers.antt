use Rattle.std.proofs.Common.{subst}
use Rattle.signal_base.specs.declared.window.Window.{Window}
use Rattle.definitions.specs.answers.Blocks.{IsUnionBound}
use Rattle.plain_costs.specs.Grids.{grid_costs}
use Rattle.field_tables.specs.Scored.{Scored, costs_of}
use Rattle.field_tables.specs.Sums.{costs_by}
use Rattle.field_tables.proofs.UnionBoundLaws.{bound_same}
use Rattle.field_tables.proofs.tables.Tables.union_bound.Goals as goal

pub returns-then-has_short_walks-clause-bound : goal.returns-then-has_short_walks-clause-bound
returns-then-has_short_walks-clause-bound c =
    let inside = c.self.inside in
    let b = c.args.block.now in
    let found = subst (λ (x : Window). IsUnionBound (costs_by inside.sums) x b c.union_bound.result) c.self.invariant.0.same c.union_bound.ensures.bound in
    subst (λ (s : Scored). IsUnionBound (costs_of s) s.window b c.union_bound.result) c.self.view_is
    (bound_same inside.window (costs_by inside.sums) (grid_costs inside.grids.now) b c.union_bound.result c.self.invariant.0.agree found)

pub returns-clause-bound : goal.returns-clause-bound
returns-clause-bound c =
    let inside = c.self.inside in
    let b = c.args.block.now in
    let found = subst (λ (x : Window). IsUnionBound (costs_by inside.sums) x b c.leap_bound.result) c.self.invariant.0.same c.leap_bound.ensures.bound in
    subst (λ (s : Scored). IsUnionBound (costs_of s) s.window b c.leap_bound.result) c.self.view_is
    (bound_same inside.window (costs_by inside.sums) (grid_costs inside.grids.now) b c.leap_bound.result c.self.invariant.0.agree found)
