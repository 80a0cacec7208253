-- One turn after the other.
use Rattle.std.proofs.Common.{◌≡◌, ℕ, List, sym, subst, arith}
use Rattle.sweep_due.specs.declared.offsets.TheConstants.{OFFSETS}
use Rattle.sweep_due.specs.Searches.{IsSearched}
use Rattle.bank.specs.Hearing.{bank_seen}
use Rattle.sweep.specs.Turns.{offsets_of}
use Rattle.sweep.proofs.TurnLaws.{next_turn}
use Rattle.sweep.proofs.phases.search_phases.Goals as goal

pub loop-turn-init : goal.loop-turn-init
loop-turn-init g c = c.new-standing.ensures

pub loop-turn-preserved : goal.loop-turn-preserved
loop-turn-preserved g c =
    let window = c.args.window.now in
    let bank = bank_seen c.args.bank.now in
    let turn = c.loop-turn.turn in
    subst (λ (offsets : List ℕ). IsSearched window bank offsets c.in_ok-standing.standing) (sym (next_turn window.phase turn))
    (c.in_ok-standing.ensures.searched (offsets_of window.phase turn) c.loop-turn.invariant)

pub returns-clause-searched : goal.returns-clause-searched
returns-clause-searched g c =
    let window = c.args.window.now in
    let all : c.loop-turn.turn ≡ OFFSETS = omega arith in
    subst (λ (turn : ℕ). IsSearched window (bank_seen c.args.bank.now) (offsets_of window.phase turn) c.loop-turn.standing) all c.loop-turn.invariant
