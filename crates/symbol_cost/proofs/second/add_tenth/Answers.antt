use Rattle.std.proofs.Common.{◌≡◌, ◌<◌, Bool, false, length, get_or, List, ◌∙◌, ap, arith}
use Rattle.std.proofs.Math.ListN.{length-set}
use Rattle.signal_base.specs.Waveform.{waveform}
use Rattle.definitions.specs.heard.Costs.{tenth_cost}
use Rattle.symbol_cost.specs.declared.limits.TheConstants.{TENTH_COST}
use Rattle.symbol_cost.proofs.RowLaws.{grown_more, few_symbols}
use Rattle.symbol_cost.proofs.second.add_tenth.Goals as goal

pub loop-x-preserved : goal.loop-x-preserved
loop-x-preserved c =
    let row = c.loop-x.costs in
    let long : length row ≡ 5 = c.loop-x.invariant.long in
    let within : c.loop-x.x < length row = omega (arith, few_symbols c.args.station, c.symbols-x-end.ensures) in
    let is = c.tenth_cost.ensures.cost ∙ ap (λ (w : List Bool). tenth_cost c.args.table.now (get_or w c.args.j false) c.args.count) c.wave.ensures in
    record {
      long = length-set row c.loop-x.x _ ∙ long;
      grown = grown_more c.args.costs.now row c.loop-x.x TENTH_COST c.tenth_cost.result
          (λ y. tenth_cost c.args.table.now (get_or (waveform c.args.station y) c.args.j false) c.args.count)
          within is c.tenth_cost.ensures.bound c.loop-x.invariant.grown;
    }
