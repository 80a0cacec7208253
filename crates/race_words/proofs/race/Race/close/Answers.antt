-- At the end the words are those of a sound race, in which the seat has the whole share.
use Rattle.std.proofs.Common.{rules, sym}
use Rattle.race_words.proofs.Closing.{close_ends, close_drawn, close_floor, close_reads}
use Rattle.race_words.proofs.race.Race.close.Goals as goal

pub returns-clause-ends : goal.returns-clause-ends
returns-clause-ends c = rw (← c.seat.view_is)
    (sym (close_ends _ _ _ _ _ c.close_with-closed.ensures.values.2 (search rules) c.seat.invariant.1.nothing _ _ c.word-least.ensures c.word-second.ensures))

pub returns-clause-drawn : goal.returns-clause-drawn
returns-clause-drawn c = rw (← c.seat.view_is)
    (close_drawn _ _ _ _ _ c.close_with-closed.ensures.values.2 (search rules) c.seat.invariant.1.nothing _ _ c.word-least.ensures c.word-second.ensures)

pub returns-clause-floor : goal.returns-clause-floor
returns-clause-floor c = rw (← c.seat.view_is)
    (close_floor _ _ _ _ _ c.close_with-closed.ensures.values.2 (search rules) c.seat.invariant.1.nothing _ _ c.word-least.ensures c.word-second.ensures)

pub returns-clause-reads : goal.returns-clause-reads
returns-clause-reads c = rw (← c.seat.view_is)
    (close_reads _ _ _ _ _ c.close_with-closed.ensures.values.2 (search rules) c.seat.invariant.1.nothing _ _ c.word-least.ensures c.word-second.ensures c.seat.invariant.1.reads)
