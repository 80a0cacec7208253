-- The offsets so far were searched.
use Rattle.sweep_due.specs.Searches.{IsSearched}
use Rattle.bank.specs.Hearing.{bank_seen}
use Rattle.sweep.specs.Turns.{offsets_of}
use Rattle.sweep.proofs.phases.search_phases.Given as goal

abbrev pub invariant-loop-turn : goal.invariant-loop-turn
invariant-loop-turn g l = IsSearched l.window (bank_seen l.bank) (offsets_of l.window.phase l.turn) l.standing
