-- One search after the other.
use Rattle.std.proofs.Common.{◌≡◌, ℕ, length, subst, arith}
use Rattle.due.specs.Banks.{costs_in}
use Rattle.sweep_due.specs.Searches.{IsSearched}
use Rattle.field_tables.specs.Scored.{costs_of}
use Rattle.sweep.specs.Keeping.{offsets_kept}
use Rattle.sweep.specs.Turns.{latest_of}
use Rattle.sweep.proofs.KeptLaws.{searched_more}
use Rattle.sweep.proofs.kept.standing_of.Goals as goal

pub loop-i-init : goal.loop-i-init
loop-i-init c = λ window bank name each. c.new-standing.ensures

pub loop-i-preserved : goal.loop-i-preserved
loop-i-preserved c = λ window bank name each.
    searched_more window bank name c.args.kept.now c.loop-i.i _ c.index-kept-i.result c.loop-i.standing c.with_kept-standing.result (omega (arith, c.loop-i-test.true)) c.index-kept-i.is each
    (λ k at q. c.agreeing_costs_cost_alike.ensures.cost k.head.window (costs_of k.tables) (costs_in k.head.window bank) q
    (c.grids_agree_with_their_costs.ensures k.head.window k.tables.grids (costs_in k.head.window bank) at.grids at.costs)) c.with_kept-standing.ensures (c.loop-i.invariant window bank name each)

pub returns : goal.returns
returns c = record {
  searched = λ window bank name each.
      let all : c.loop-i.i ≡ length c.args.kept.now = omega arith in
      subst (λ (n : ℕ). IsSearched window bank (latest_of (offsets_kept c.args.kept.now) n) c.loop-i.standing) all (c.loop-i.invariant window bank name each);
}
