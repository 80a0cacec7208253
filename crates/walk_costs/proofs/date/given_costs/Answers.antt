use Rattle.std.proofs.Common.{◌≡◌, ◌≢◌, ◌<◌, ◌∙◌, ℕ, length, get_or, sym, ap, rules, arith, below_more, get_or-set_other, get_or-set_same, length-set}
use Rattle.std.proofs.Math.ListN.{set}
use Rattle.signal_base.specs.declared.station.Station.{Station}
use Rattle.symbol_cost.specs.Grid.{cost_at}
use Rattle.slot_columns.specs.Parts.{minute_cost}
use Rattle.minute_parts.specs.Overlay.{is_given_up}
use Rattle.walk_costs.specs.Dates.{given_up}
use Rattle.walk_costs.proofs.DateLaws.{all_lost, minute_lost, minute_of_all, none_before, none_given, one_more_lost}
use Rattle.walk_costs.proofs.date.given_costs.Goals as goal

pub returns-then-not-gives_up : goal.returns-then-not-gives_up
returns-then-not-gives_up c =
    let grid = c.args.columns.now in
    let part = c.args.part.now in
    let keeps = λ (s : ℕ). ap (λ (t : Station). is_given_up t s) (sym c.station.ensures) ∙ c.gives_up.ensures c.if-not-gives_up.true s in
    record {
      costs = λ m few. omega (arith, c.no_losses-lost.ensures m few, none_given grid c.args.p part keeps);
      small = λ m few. omega (arith, c.no_losses-lost.ensures m few);
    }

pub loop-m-init : goal.loop-m-init
loop-m-init c = record {
  long = search rules;
  done = λ m lt. absurd (omega arith);
  none = λ m le few. c.no_losses-lost.ensures m few;
  sum = omega (arith, none_before c.args.columns.now c.args.p c.args.part.now);
  bound = omega arith;
}

pub overflow_add-whole : goal.overflow_add-whole
overflow_add-whole c =
    let within : c.loop-m.m < length c.loop-m.lost = omega (arith, c.loop-m.invariant.long, c.loop-m-test.true, c.walk_minutes-m-end.ensures.bound) in
    let one : get_or (set c.loop-m.lost c.loop-m.m c.call_cost.result) c.loop-m.m 0 ≡ c.call_cost.result = rw get_or-set_same in
    omega (arith, one, c.call_cost.ensures.small, c.loop-m.invariant.bound, c.loop-m-test.true, c.walk_minutes-m-end.ensures.bound)

pub loop-m-preserved : goal.loop-m-preserved
loop-m-preserved c =
    let grid = c.args.columns.now in
    let p = c.args.p in
    let part = c.args.part.now in
    let m = c.loop-m.m in
    let minute = c.call_cost.ensures.cost in
    let within : c.loop-m.m < length c.loop-m.lost = omega (arith, c.loop-m.invariant.long, c.loop-m-test.true, c.walk_minutes-m-end.ensures.bound) in
    let one : get_or (set c.loop-m.lost c.loop-m.m c.call_cost.result) c.loop-m.m 0 ≡ c.call_cost.result = rw get_or-set_same in
    record {
      long = simp length-set c.loop-m.invariant.long;
      done = below_more
          (λ j. get_or (set c.loop-m.lost c.loop-m.m c.call_cost.result) j 0
          ≡ minute_cost grid.station (cost_at grid.rows) (length grid.rows) p j (given_up grid.station part)) m
          (λ j lt. let other : j ≢ c.loop-m.m = omega arith in rw get_or-set_other (c.loop-m.invariant.done j lt)) (one ∙ minute);
      none = λ j le few. let other : j ≢ c.loop-m.m = omega arith in rw get_or-set_other (c.loop-m.invariant.none j (omega arith) few);
      sum = omega (arith, one, minute, c.loop-m.invariant.sum, one_more_lost grid p part m);
      bound = omega (arith, one, c.call_cost.ensures.small, c.loop-m.invariant.bound);
    }

pub all_but-requires : goal.all_but-requires
all_but-requires c = λ m few.
    let grid = c.args.columns.now in
    let p = c.args.p in
    let part = c.args.part.now in
    let count : c.loop-m.m ≡ c.walk_minutes-m-end.result = omega arith in
    let lost = minute_lost grid p part m c.loop-m.m c.loop-m.lost (count ∙ c.walk_minutes-m-end.ensures.count) c.loop-m.invariant.done c.loop-m.invariant.none few in
    omega (arith, lost, c.loop-m.invariant.sum, all_lost grid p part c.loop-m.m (count ∙ c.walk_minutes-m-end.ensures.count), minute_of_all grid p part m)

pub returns : goal.returns
returns c =
    let grid = c.args.columns.now in
    let p = c.args.p in
    let part = c.args.part.now in
    let count : c.loop-m.m ≡ c.walk_minutes-m-end.result = omega arith in
    record {
      costs = λ m few.
          let lost = minute_lost grid p part m c.loop-m.m c.loop-m.lost (count ∙ c.walk_minutes-m-end.ensures.count) c.loop-m.invariant.done c.loop-m.invariant.none few in
          omega (arith, lost, c.all_but.ensures m few, c.loop-m.invariant.sum, all_lost grid p part c.loop-m.m (count ∙ c.walk_minutes-m-end.ensures.count));
      small = λ m few. omega (arith, c.all_but.ensures m few, c.loop-m.invariant.bound, count, c.walk_minutes-m-end.ensures.bound);
    }
