use Rattle.std.proofs.Common.{ℕ, ◌<◌, ◌≤◌, inl, inr, min, ap, ◌∙◌, arith}
use Rattle.std.proofs.Math.Nat.{min-eq_left, min-eq_right, min-le_left, min-le_right}
use Rattle.std.proofs.lemmas.Bool.{cases_lt}
use Rattle.slot_columns.specs.Parts.{most_cost}
use Rattle.walk_costs.specs.Walks.{PricedParts}
use Rattle.walk_costs.proofs.walks.StationWalks.least_near.Goals as goal

-- the lesser of two numbers that are above another
above_both : (n a b : ℕ) → n < a → n < b → n < min a b
above_both n a b one other = elim (cases_lt a b) [
  | inl lt ↦ (let le : a ≤ b = omega (arith, lt) in omega (arith, min-eq_left le, one))
  | inr ge ↦ omega (arith, min-eq_right ge, other)
]

pub loop-near-init : goal.loop-near-init
loop-near-init c =
    let most = c.most_cost.ensures ∙ ap (λ (v : PricedParts). most_cost v.grid) c.self.view_is in
    record {
      begun = omega arith;
      followed = λ r ge lt. absurd (omega (arith, ge, lt));
      floor = λ r t0 ge lt near. absurd (omega (arith, ge, lt));
      first = λ same. most;
      above = λ some. absurd (omega (arith, some));
      bound = omega (arith, most);
    }

pub loop-near-preserved : goal.loop-near-preserved
loop-near-preserved c =
    let before = c.loop-near.invariant in
    let near = c.loop-near.near in
    let alike = c.least_alike-alike.result in
    let found = c.least_alike-alike.ensures in
    let more : near.last < alike.last = omega (arith, found.begun, c.if-alike-near.false) in
    let under : c.args.enough < alike.floor = omega (arith, c.if-alike-enough.false) in
    let was_under : c.args.enough < near.floor = elim (cases_lt c.args.run near.last) [
      | inl some ↦ before.above some
      | inr none ↦ omega (arith, before.first (omega (arith, none, before.begun)), found.bound, under)
    ] in
    record {
      begun = omega (arith, before.begun, more);
      followed = λ r ge lt. elim (cases_lt r near.last) [
        | inl early ↦ before.followed r ge early
        | inr late ↦ found.followed r late lt
      ];
      floor = λ r t0 ge lt stays. elim (cases_lt r near.last) [
        | inl early ↦ omega (arith, before.floor r t0 ge early stays, c.min.ensures, min-le_left near.floor alike.floor)
        | inr late ↦ omega (arith, found.floor r t0 late lt stays, c.min.ensures, min-le_right near.floor alike.floor)
      ];
      first = λ same. absurd (omega (arith, same, before.begun, more));
      above = λ _. omega (arith, c.min.ensures, above_both c.args.enough near.floor alike.floor was_under under);
      bound = omega (arith, before.bound, c.min.ensures, min-le_left near.floor alike.floor);
    }

pub returns-then-alike-near-clause-begun : goal.returns-then-alike-near-clause-begun
returns-then-alike-near-clause-begun c = c.loop-near.invariant.begun

pub returns-then-alike-near-clause-followed : goal.returns-then-alike-near-clause-followed
returns-then-alike-near-clause-followed c = c.loop-near.invariant.followed

pub returns-then-alike-near-clause-floor : goal.returns-then-alike-near-clause-floor
returns-then-alike-near-clause-floor c = c.loop-near.invariant.floor

pub returns-then-alike-near-clause-above : goal.returns-then-alike-near-clause-above
returns-then-alike-near-clause-above c = c.loop-near.invariant.above

pub returns-then-alike-near-clause-bound : goal.returns-then-alike-near-clause-bound
returns-then-alike-near-clause-bound c = c.loop-near.invariant.bound

pub returns-clause-begun : goal.returns-clause-begun
returns-clause-begun c = c.loop-near.invariant.begun

pub returns-clause-followed : goal.returns-clause-followed
returns-clause-followed c = c.loop-near.invariant.followed

pub returns-clause-floor : goal.returns-clause-floor
returns-clause-floor c = c.loop-near.invariant.floor

pub returns-clause-above : goal.returns-clause-above
returns-clause-above c = c.loop-near.invariant.above

pub returns-clause-bound : goal.returns-clause-bound
returns-clause-bound c = c.loop-near.invariant.bound
