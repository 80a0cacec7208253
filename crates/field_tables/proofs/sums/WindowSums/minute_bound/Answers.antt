-- A sequence that isn't announced is legal.
use Rattle.std.proofs.Common.{arith}
use Rattle.field_tables.proofs.MinuteLaws.{legal_where_unannounced}
use Rattle.field_tables.proofs.sums.WindowSums.minute_bound.Goals as goal

pub returns-clause-bound : goal.returns-clause-bound
returns-clause-bound c =
    let b = c.args.minute.now in (
      legal_where_unannounced c.args.self.now c.end.ensures.sums b c.requires.block c.requires.walks c.requires.encoded b.lo (omega arith) c.requires.block.not_empty
          c.if-minute.false,
      c.minute_cost.ensures.cost,
    )
