use Rattle.std.proofs.Common.{subst}
use Rattle.leap_unions.specs.Scope.{Scope}
use Rattle.leap_unions.specs.Walks.{AreTogether}
use Rattle.leap_unions.proofs.unions.LeapUnions.walks_together.Goals as goal

pub returns : goal.returns
returns c = subst (λ (scope : Scope). AreTogether scope c.args.p c.args.lo c.args.hi c.walks_of.result) c.self.view_is c.walks_of.ensures
