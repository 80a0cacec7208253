use Rattle.std.proofs.Common.{◌≡◌, ◌<◌, length, map, Err, ◌∙◌, refl, arith, rules}
use Rattle.std.proofs.Math.ListN.{length-set}
use Rattle.bank_config.specs.declared.limits.TheConstants.{COSTS}
use Rattle.std.proofs.lemmas.List.{take_more_set}
use Rattle.toml.specs.View.{view}
use Rattle.signal_base.specs.declared.limits.TheConstants.{MOST_COST}
use Rattle.bank_config.specs.Values.{each, number_in}
use Rattle.bank_config.proofs.CostLaws.{set_most, zeros_most}
use Rattle.bank_config.proofs.EachLaws.{each-next, each-stop, goes_on-from_start}
use Rattle.bank_config.proofs.lists.costs_of.Goals as goal

pub loop-i-preserved : goal.loop-i-preserved
loop-i-preserved c =
    let i = c.loop-i.i in
    let inside : i < length c.loop-i.costs = omega (arith, c.loop-i.invariant.long) in
    let within : i < length c.args.list.now = omega (arith, c.requires) in
    record {
      most = set_most c.loop-i.costs i c.in_ok-cost.cost MOST_COST (omega (arith, c.in_ok-cost.ensures.most)) c.loop-i.invariant.most;
      long = length-set c.loop-i.costs i c.in_ok-cost.cost ∙ c.loop-i.invariant.long;
      so_far = rw (take_more_set c.loop-i.costs i c.in_ok-cost.cost inside)
          (each-next (λ _. number_in c.args.key 0 MOST_COST) i _ _ c.args.list.now i c.index-list-i.result within c.index-list-i.is c.loop-i.invariant.so_far c.in_ok-cost.cost c.in_ok-cost.ensures.value);
    }

pub returns-in_err-cost : goal.returns-in_err-cost
returns-in_err-cost c =
    let within : c.loop-i.i < length c.args.list.now = omega (arith, c.requires) in
    let refused : each (λ _. number_in c.args.key 0 MOST_COST) 0 (map view c.args.list.now) ≡ Err c.in_err-cost.field-0.0 =
    each-stop (λ _. number_in c.args.key 0 MOST_COST) c.loop-i.i _ _ c.args.list.now c.loop-i.i c.index-list-i.result within c.index-list-i.is c.loop-i.invariant.so_far _ c.in_err-cost.ensures.value in
    search (rules, refused)

pub loop-i-init : goal.loop-i-init
loop-i-init c = record { most = zeros_most COSTS MOST_COST; long = refl; so_far = goes_on-from_start (each (λ _. number_in c.args.key 0 MOST_COST) 0 (map view c.args.list.now)) }
