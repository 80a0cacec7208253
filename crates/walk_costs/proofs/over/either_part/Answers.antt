use Rattle.std.proofs.Common.{ℕ, get_or, arith}
use Rattle.signal_base.proofs.Made.{made_by}
use Rattle.walk_costs.specs.Kinds.{either_part, either_set}
use Rattle.walk_costs.proofs.over.either_part.Goals as goal

pub returns : goal.returns
unfolding either_part
returns c =
    let all = c.loop-s.invariant in
    made_by (λ (s : ℕ). either_set (get_or c.args.one.now s 0) (get_or c.args.other.now s 0)) 60 c.loop-s.part all.long
    (λ s lt. all.done s (omega (arith, lt, c.loop-s-test.false)))
