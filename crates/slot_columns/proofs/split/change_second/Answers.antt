use Rattle.std.proofs.Common.{◌≡◌, ◌≢◌, ℕ, inl, inr, ◌+◌, ◌*◌, ◌<◌, length, refl, ap, arith, length-set, get_or-set_other, get_or-set_same}
use Rattle.std.proofs.lemmas.Bool.{cases_eq}
use Rattle.definitions.proofs.CostLaws.{sum_below_more, sum_below_none}
use Rattle.slot_columns.specs.Tables.{at_place, in_front}
use Rattle.slot_columns.proofs.split.change_second.Goals as goal

pub loop-m-init : goal.loop-m-init
loop-m-init c =
    let cost = λ (set m : ℕ). at_place c.args.slots.now c.args.p set (60 * m + c.args.s) in
    record {
      long = omega arith;
      more_is = omega (arith, sum_below_none (cost c.args.before));
      less_is = omega (arith, sum_below_none (cost c.args.after));
      more_bound = omega arith;
      less_bound = omega arith;
      done = λ b le.
          let none : b ≡ 0 = omega arith in
          let before = ap (in_front c.args.slots.now c.args.p c.args.s c.args.before) none in
          let after = ap (in_front c.args.slots.now c.args.p c.args.s c.args.after) none in
          omega (arith, before, after, sum_below_none (cost c.args.before), sum_below_none (cost c.args.after));
      rest = λ b lt. refl;
    }

pub overflow_add-costs-in-loop-m : goal.overflow_add-costs-in-loop-m
overflow_add-costs-in-loop-m c =
    let m = c.loop-m.m in
    let cost = λ (set m : ℕ). at_place c.args.slots.now c.args.p set (60 * m + c.args.s) in
    let few : m + 1 < 21 = omega (arith, c.loop-m-test.true) in
    omega (
      arith,
      c.loop-m.invariant.more_is,
      c.place_cost-more.ensures.cost,
      sum_below_more m (cost c.args.before),
      c.loop-m.invariant.rest (m + 1) (omega arith),
      c.requires.room (m + 1) few,
    )

pub overflow_sub-costs : goal.overflow_sub-costs
overflow_sub-costs c =
    let m = c.loop-m.m in
    let cost = λ (set m : ℕ). at_place c.args.slots.now c.args.p set (60 * m + c.args.s) in
    let few : m + 1 < 21 = omega (arith, c.loop-m-test.true) in
    omega (
      arith,
      c.loop-m.invariant.less_is,
      c.place_cost-less.ensures.cost,
      sum_below_more m (cost c.args.after),
      c.loop-m.invariant.rest (m + 1) (omega arith),
      c.requires.counted (m + 1) few,
    )

pub loop-m-preserved : goal.loop-m-preserved
loop-m-preserved c =
    let m = c.loop-m.m in
    let cost = λ (set m : ℕ). at_place c.args.slots.now c.args.p set (60 * m + c.args.s) in
    let within : m + 1 < length c.loop-m.costs = omega (arith, c.loop-m.invariant.long, c.loop-m-test.true) in
    let more_is : c.loop-m.more + c.place_cost-more.result ≡ in_front c.args.slots.now c.args.p c.args.s c.args.before (m + 1) =
    omega (arith, c.loop-m.invariant.more_is, c.place_cost-more.ensures.cost, sum_below_more m (cost c.args.before)) in
    let less_is : c.loop-m.less + c.place_cost-less.result ≡ in_front c.args.slots.now c.args.p c.args.s c.args.after (m + 1) =
    omega (arith, c.loop-m.invariant.less_is, c.place_cost-less.ensures.cost, sum_below_more m (cost c.args.after)) in
    record {
      long = simp length-set c.loop-m.invariant.long;
      more_is = more_is;
      less_is = less_is;
      more_bound = omega (arith, c.loop-m.invariant.more_bound, c.place_cost-more.ensures.small);
      less_bound = omega (arith, c.loop-m.invariant.less_bound, c.place_cost-less.ensures.small);
      done = λ b le. elim (cases_eq b (m + 1)) [
        | inl here ↦ (
            let few : m + 1 < 21 = omega (arith, c.loop-m-test.true) in
            let was = c.loop-m.invariant.rest (m + 1) (omega arith) in
            let left = c.requires.counted (m + 1) few in
            rw here (rw get_or-set_same (omega (arith, was, left, more_is, less_is))))
        | inr other ↦ rw get_or-set_other (c.loop-m.invariant.done b (omega arith))
      ];
      rest = λ b lt. let other : b ≢ m + 1 = omega arith in rw get_or-set_other (c.loop-m.invariant.rest b (omega arith));
    }
