use Rattle.std.proofs.Common.{subst}
use Rattle.leap_unions.specs.Scope.{Scope}
use Rattle.leap_unions.specs.Walks.{IsLeapWalk}
use Rattle.leap_unions.proofs.unions.LeapUnions.walk.Goals as goal

pub returns : goal.returns
returns c = subst (λ (scope : Scope). IsLeapWalk scope c.args.p c.args.first c.walk_of.result) c.self.view_is c.walk_of.ensures
