use Rattle.std.proofs.Common.{arith}
use Rattle.bounds.proofs.BlockLists.{end_by_rest}
use Rattle.bounds.proofs.parts.end_by.Goals as goal

pub returns : goal.returns
returns c =
    rw (c.min.ensures, c.saturating_add.ensures) (end_by_rest c.args.lo c.args.minutes c.args.hi 4294967295 c.requires (omega arith))
