use Rattle.std.proofs.Common.{◌∙◌, sym}
use Rattle.clock_board.proofs.Ruling.{forks, merges}
use Rattle.clock_board.proofs.tracker.Tracker.news.Goals as goal

pub tell-requires : goal.tell-requires
tell-requires c = forks _ _

pub learn-requires-clause-own : goal.learn-requires-clause-own
learn-requires-clause-own c = (c.tell.ensures.given.0 ∙ sym c.in-Some.ensures.table, c.tell.ensures.given.2)

pub learn-requires-clause-rule : goal.learn-requires-clause-rule
learn-requires-clause-rule c = merges _ _ _ _
