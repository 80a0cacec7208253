use Rattle.std.proofs.Common.{◌<◌, ℕ, List, slice_index, MatchOption, refl, subst}
use Rattle.definitions.specs.answers.Blocks.{HasWalk, IsUnion}
use Rattle.leap_unions.specs.Scope.{Scope}
use Rattle.leap_unions.proofs.PieceLaws.{unions_of_block}
use Rattle.leap_unions.proofs.unions.LeapUnions.unions_of.Goals as goal

pub returns : goal.returns
returns c =
    let window = c.args.window.now in
    let b = c.args.block.now in
    subst (λ (scope : Scope). MatchOption c.unions.result (¬ (HasWalk window b)) (λ (sets : List ℕ). HasWalk window b × ((k : ℕ) → k < window.seconds → IsUnion window b scope.station k (slice_index sets k))))
    c.self.view_is (unions_of_block window b.second c.self.inside.station b c.unions.result c.requires.announced refl c.unions.ensures)
