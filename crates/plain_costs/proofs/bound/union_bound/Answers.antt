use Rattle.std.proofs.Common.{ℕ}
use Rattle.signal_base.specs.declared.station.Station.{Station}
use Rattle.definitions.proofs.BoundExistLaws.{a_union}
use Rattle.plain_costs.specs.Unions.{AreUnions}
use Rattle.plain_costs.proofs.bound.union_bound.Goals as goal

pub returns-clause-bound : goal.returns-clause-bound
returns-clause-bound c =
    let window = c.args.window.now in
    let b = c.args.block.now in
    let unions = λ (station : Station) (k : ℕ). (a_union window b station k).0 in
    let are : AreUnions window b unions = λ station k heard lt. (a_union window b station k).1 in
    (c.has_walk.ensures.0 c.if-not-has_walk.false, record { unions = unions; each = are; cost = c.cost_of_unions.ensures.cost unions are })
