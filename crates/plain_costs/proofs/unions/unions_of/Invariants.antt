use Rattle.std.proofs.Common.{◌<◌, ℕ, slice_index}
use Rattle.plain_costs.proofs.UnionLaws.{IsUnitedTo}
use Rattle.plain_costs.proofs.unions.unions_of.Given as goal

abbrev pub invariant-loop-first : goal.invariant-loop-first
invariant-loop-first l = (k : ℕ) → k < l.window.seconds → IsUnitedTo l.window l.block l.station k l.first (slice_index l.sets k)
