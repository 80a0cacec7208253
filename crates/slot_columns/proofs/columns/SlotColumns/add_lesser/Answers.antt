use Rattle.std.proofs.Common.{◌≡◌, ◌≢◌, ℕ, inl, inr, ◌+◌, ◌-◌, ◌*◌, ◌<◌, ◌≤◌, length, get_or, refl, sym, ap, ◌∙◌, arith, length-set, get_or-set_other, get_or-set_same}
use Rattle.std.proofs.lemmas.Bool.{cases_eq}
use Rattle.std.proofs.lemmas.Nat.{le_or_l, le_or_r}
use Rattle.definitions.proofs.CostLaws.{sum_below_none}
use Rattle.symbol_cost.specs.Grid.{Grid}
use Rattle.slot_columns.specs.Tables.{at_place, behind, in_front, lesser_in_change}
use Rattle.slot_columns.proofs.ChangeLaws.{in_all_parts, lesser_free, lesser_is, turn}
use Rattle.slot_columns.proofs.columns.SlotColumns.add_lesser.Goals as goal
use Rattle.slot_columns.proofs.columns.SlotColumns.add_lesser.Goals.{After-min-in-loop-m, After-place_cost-other_cost}

pub returns-then-one-other-eq0 : goal.returns-then-one-other-eq0
returns-then-one-other-eq0 c = λ b some within.
    let grid = c.args.self.now in
    let p = c.args.p in
    let s = c.args.s in
    let none = c.if-one-other-eq0.true in
    let one : c.args.one ≡ 0 = omega (arith, none, le_or_l c.args.one c.args.other) in
    let other : c.args.other ≡ 0 = omega (arith, none, le_or_r c.args.one c.args.other) in
    omega (
      arith,
      ap (λ x. lesser_in_change grid p s x c.args.other b) one,
      ap (λ x. lesser_in_change grid p s 0 x b) other,
      lesser_free grid p s b (omega (arith, within, c.requires.minutes)),
    )

pub loop-m-init : goal.loop-m-init
loop-m-init c =
    let grid = c.args.self.now in
    let p = c.args.p in
    let s = c.args.s in
    let cost = λ (set m : ℕ). at_place grid p set (60 * m + s) in
    let front : (set : ℕ) → 0 ≡ in_front grid p s set 0 = λ set. sym (sum_below_none (cost set)) in
    record {
      long = c.told-costs;
      front_is = front c.args.one;
      other_front_is = front c.args.other;
      behind_is = omega (arith, c.in_all.ensures, in_all_parts grid p s c.args.one 0 (omega arith), front c.args.one);
      other_behind_is = omega (arith, c.in_all-2.ensures, in_all_parts grid p s c.args.other 0 (omega arith), front c.args.other);
      bound = omega arith;
      other_bound = omega arith;
      done = λ b some le. absurd (omega (arith, some, le));
      rest = λ b lt. refl;
    }

-- with one minute more before the change
with_one : (c : After-place_cost-other_cost) → let grid = c.args.self.now in
    (c.loop-m.front.0 + c.place_cost-cost.result ≡ in_front grid c.args.p c.args.s c.args.one (c.loop-m.m + 1))
    × (c.place_cost-cost.result ≤ c.loop-m.behind.0)
    × (c.loop-m.behind.0 - c.place_cost-cost.result ≡ behind grid c.args.p c.args.s c.args.one (c.loop-m.m + 1))
with_one c =
    turn c.args.self.now c.args.p c.args.s c.args.one c.loop-m.m c.loop-m.front.0 c.loop-m.behind.0 c.place_cost-cost.result
    (omega (arith, c.loop-m-test.true, c.requires.minutes)) c.loop-m.invariant.front_is c.loop-m.invariant.behind_is
    (c.place_cost-cost.ensures.cost ∙ ap (λ (g : Grid). at_place g c.args.p c.args.one (60 * c.loop-m.m + c.args.s)) c.self.view_is)

with_other : (c : After-place_cost-other_cost) → let grid = c.args.self.now in
    (c.loop-m.front.1 + c.place_cost-other_cost.result ≡ in_front grid c.args.p c.args.s c.args.other (c.loop-m.m + 1))
    × (c.place_cost-other_cost.result ≤ c.loop-m.behind.1)
    × (c.loop-m.behind.1 - c.place_cost-other_cost.result ≡ behind grid c.args.p c.args.s c.args.other (c.loop-m.m + 1))
with_other c =
    turn c.args.self.now c.args.p c.args.s c.args.other c.loop-m.m c.loop-m.front.1 c.loop-m.behind.1 c.place_cost-other_cost.result
    (omega (arith, c.loop-m-test.true, c.requires.minutes)) c.loop-m.invariant.other_front_is c.loop-m.invariant.other_behind_is
    (c.place_cost-other_cost.ensures.cost ∙ ap (λ (g : Grid). at_place g c.args.p c.args.other (60 * c.loop-m.m + c.args.s)) c.self.view_is)

pub overflow_sub-behind : goal.overflow_sub-behind
overflow_sub-behind c = (with_one (goal.at.overflow_sub-behind c).After-place_cost-other_cost).1

pub overflow_sub-behind-in-loop-m : goal.overflow_sub-behind-in-loop-m
overflow_sub-behind-in-loop-m c = (with_other (goal.at.overflow_sub-behind-in-loop-m c).After-place_cost-other_cost).1

-- what is added, and the room for it
added : (c : After-min-in-loop-m)
    → c.min.result + c.min-in-loop-m.result ≡ lesser_in_change c.args.self.now c.args.p c.args.s c.args.one c.args.other (c.loop-m.m + 1)
added c =
    let one = with_one (goal.at.overflow_add-costs c).After-place_cost-other_cost in
    let other = with_other (goal.at.overflow_add-costs c).After-place_cost-other_cost in
    omega (
      arith,
      c.min.ensures,
      c.min-in-loop-m.ensures,
      lesser_is c.args.self.now c.args.p c.args.s c.args.one c.args.other (c.loop-m.m + 1) (c.loop-m.front.0 + c.place_cost-cost.result)
          (c.loop-m.front.1 + c.place_cost-other_cost.result) (c.loop-m.behind.0 - c.place_cost-cost.result) (c.loop-m.behind.1 - c.place_cost-other_cost.result)
          one.0 other.0 one.2 other.2,
    )

fits : (c : After-min-in-loop-m) → get_or c.loop-m.costs (c.loop-m.m + 1) 0 + (c.min.result + c.min-in-loop-m.result) < 4_294_967_296
fits c =
    let m = c.loop-m.m in
    omega (
      arith,
      added c,
      c.loop-m.invariant.rest (m + 1) (omega arith),
      c.requires.room (m + 1) (omega arith) (omega (arith, c.loop-m-test.true)),
    )

pub overflow_add-costs : goal.overflow_add-costs
overflow_add-costs c = omega (arith, fits c)

pub overflow_add-costs-in-loop-m-2 : goal.overflow_add-costs-in-loop-m-2
overflow_add-costs-in-loop-m-2 c = omega (arith, fits (goal.at.overflow_add-costs-in-loop-m-2 c).After-min-in-loop-m)

pub loop-m-preserved : goal.loop-m-preserved
loop-m-preserved c =
    let m = c.loop-m.m in
    let at = (goal.at.loop-m-preserved c).After-min-in-loop-m in
    let one = with_one (goal.at.overflow_add-costs at).After-place_cost-other_cost in
    let other = with_other (goal.at.overflow_add-costs at).After-place_cost-other_cost in
    let within : m + 1 < length c.loop-m.costs = omega (arith, c.loop-m.invariant.long, c.loop-m-test.true, c.requires.minutes) in
    record {
      long = simp length-set c.loop-m.invariant.long;
      front_is = one.0;
      other_front_is = other.0;
      behind_is = one.2;
      other_behind_is = other.2;
      bound = omega (arith, c.loop-m.invariant.bound, c.place_cost-cost.ensures.small);
      other_bound = omega (arith, c.loop-m.invariant.other_bound, c.place_cost-other_cost.ensures.small);
      done = λ b some le. elim (cases_eq b (m + 1)) [
        | inl here ↦ rw here (rw get_or-set_same (omega (arith, added at, c.loop-m.invariant.rest (m + 1) (omega arith))))
        | inr less ↦ rw get_or-set_other (c.loop-m.invariant.done b some (omega (arith, le, less)))
      ];
      rest = λ b lt. let less : b ≢ m + 1 = omega (arith, lt) in rw get_or-set_other (c.loop-m.invariant.rest b (omega (arith, lt)));
    }
