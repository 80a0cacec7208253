use Rattle.std.proofs.Common.{ℕ, ◌∙◌, refl, false, get_or, Option, ap, arith}
use Rattle.signal_base.specs.Waveform.{waveform}
use Rattle.definitions.specs.heard.Logs.{Records, low_count}
use Rattle.definitions.specs.heard.Costs.{tenth_cost}
use Rattle.definitions.proofs.CostLaws.{sum_below_none, sum_below_more}
use Rattle.symbol_cost.proofs.RowLaws.{no_cost, symbol_tenth}
use Rattle.symbol_cost.proofs.second.next_costs.Goals as goal

pub loop-j-init : goal.loop-j-init
loop-j-init c =
    let start = c.args.tenths.now in
    record {
      costs = λ x h. omega (arith, no_cost x, sum_below_none (symbol_tenth c.args.table.now start.log start.at c.args.station x));
      bound = λ x. omega (arith, no_cost x);
      at = omega arith;
      log = refl;
    }

pub loop-j-preserved : goal.loop-j-preserved
loop-j-preserved c =
    let j = c.loop-j.j in
    let start = c.args.tenths.now in
    let before = c.loop-j.invariant in
    let count = c.next.ensures.low ∙ ap (λ (log : Records). low_count log c.loop-j.tenths.at 100) before.log ∙ ap (λ (at : ℕ). low_count start.log at 100) before.at in
    record {
      costs = λ x h.
          let term = ap (λ (o : Option ℕ). tenth_cost c.args.table.now (get_or (waveform c.args.station x) j false) o) count in
          omega (arith, c.add_tenth.ensures.adds x h, term, before.costs x h, sum_below_more j (symbol_tenth c.args.table.now start.log start.at c.args.station x));
      bound = λ x. omega (arith, c.add_tenth.ensures.bound x, before.bound x);
      at = omega (arith, c.next.ensures.at, before.at);
      log = c.next.ensures.log ∙ before.log;
    }
