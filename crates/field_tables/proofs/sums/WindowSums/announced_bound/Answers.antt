-- An announced sequence is legal where it shows that.
use Rattle.std.proofs.Common.{arith}
use Rattle.field_tables.proofs.MinuteLaws.{legal_where_shown}
use Rattle.field_tables.proofs.sums.WindowSums.announced_bound.Goals as goal

pub returns-then-not-shows-clause-bound : goal.returns-then-not-shows-clause-bound
returns-then-not-shows-clause-bound c =
    let b = c.args.minute.now in
    let legal = legal_where_shown c.args.self.now c.end.ensures.sums b c.requires.block c.requires.walks c.requires.encoded b.lo (omega arith) c.requires.block.not_empty c.requires.announced in
    λ is. let shown = c.shows.ensures.1 (legal.0 is) in absurd cc

pub returns-clause-bound : goal.returns-clause-bound
returns-clause-bound c =
    let b = c.args.minute.now in
    let legal = legal_where_shown c.args.self.now c.end.ensures.sums b c.requires.block c.requires.walks c.requires.encoded b.lo (omega arith) c.requires.block.not_empty c.requires.announced in
    (legal.1 (c.shows.ensures.0 cc), c.minute_cost.ensures.cost)
