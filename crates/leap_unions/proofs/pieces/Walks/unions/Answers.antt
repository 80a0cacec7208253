use Rattle.std.proofs.Common.{arith}
use Rattle.leap_unions.proofs.PieceLaws.{unions_joined}
use Rattle.leap_unions.proofs.pieces.Walks.unions.Goals as goal

pub loop-t-preserved : goal.loop-t-preserved
loop-t-preserved c =
    let w = c.args.self.now in
    let before = c.loop-t.invariant in
    let next = c.piece-end.ensures in
    record {
      from = omega (arith, before.from, next.grows);
      within = next.within;
      unions = unions_joined w.window.now w.second w.station c.args.lo c.loop-t.t c.piece-end.result.end c.loop-t.sets c.piece-end.result.sets c.both-sets.result
          w.is_window.not_long before.from (omega (arith, next.grows)) before.unions next.unions c.both-sets.ensures;
    }
