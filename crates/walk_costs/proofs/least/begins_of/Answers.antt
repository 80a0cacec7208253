use Rattle.std.proofs.Common.{◌≡◌, ◌+◌, ◌-◌, ◌%◌, ◌<◌, ◌≤◌, ℕ, inl, inr, List, length, get_or, ap, ◌∙◌, arith, get_or-set_other, get_or-set_same, length-set}
use Rattle.std.proofs.Math.ListN.{set}
use Rattle.std.proofs.lemmas.Bool.{cases_eq, cases_lt}
use Rattle.std.proofs.lemmas.List.{get_or-replicate}
use Rattle.signal_base.specs.declared.limits.TheConstants.{GREATEST_COST}
use Rattle.slot_columns.specs.Parts.{entry}
use Rattle.walk_costs.specs.Leasts.{call_class}
use Rattle.walk_costs.proofs.least.begins_of.Goals as goal

-- an entry is at most what it was where one is made less
lower_set : (xs : List ℕ) (m x i b : ℕ) → m < length xs → x ≤ get_or xs m 0 → get_or xs i 0 ≤ b → get_or (set xs m x) i 0 ≤ b
lower_set xs m x i b within less before = elim (cases_eq i m) [
  | inl same ↦ omega (arith, ap (λ j. get_or (set xs m x) j 0) same, get_or-set_same xs m x 0 within, less, ap (λ j. get_or xs j 0) same, before)
  | inr other ↦ omega (arith, get_or-set_other xs m i x 0 other, before)
]

pub loop-j-init : goal.loop-j-init
loop-j-init c = record {
  long = omega arith;
  before = λ u is. absurd (omega (arith, is.1));
  done = λ u is. absurd (omega (arith, is.1));
  small = λ m few. omega (arith, get_or-replicate 30 m GREATEST_COST 0 few);
}

pub loop-j-preserved : goal.loop-j-preserved
loop-j-preserved c =
    let m : ℕ = c.call_class-m.result in
    let now : ℕ = (1440 + c.args.last - c.loop-j.j) % 1440 in
    let within : m < length c.loop-j.costs = omega (arith, c.loop-j.invariant.long, c.call_class-m.ensures.bound, c.requires.reached) in
    let less : c.min.result ≤ get_or c.loop-j.costs m 0 = omega (arith, c.min.ensures) in
    record {
      long = simp length-set c.loop-j.invariant.long;
      before = λ u is. elim (cases_lt is.0 c.loop-j.j) [
        | inl early ↦ omega (arith, c.loop-j.invariant.before u (is.0, early, is.2), c.min-first.ensures)
        | inr late ↦ (
            let here : is.0 ≡ c.loop-j.j = omega (arith, late, is.1) in
            let same : u ≡ now = is.2 ∙ ap (λ j. (1440 + c.args.last - j) % 1440) here in
            omega (arith, ap (call_class c.args.reached) same, c.call_class-m.ensures.value, c.min-first.ensures))
      ];
      done = λ u is. elim (cases_lt is.0 c.loop-j.j) [
        | inl early ↦ lower_set c.loop-j.costs m c.min.result (call_class c.args.reached u) (entry c.args.walks.now c.args.p u) within less
            (c.loop-j.invariant.done u (is.0, early, is.2))
        | inr late ↦ (
            let here : is.0 ≡ c.loop-j.j = omega (arith, late, is.1) in
            let same : u ≡ now = is.2 ∙ ap (λ j. (1440 + c.args.last - j) % 1440) here in
            omega (
              arith,
              ap (λ j. get_or (set c.loop-j.costs m c.min.result) (call_class c.args.reached j) 0) same,
              ap (λ j. get_or (set c.loop-j.costs m c.min.result) j 0) c.call_class-m.ensures.value,
              get_or-set_same c.loop-j.costs m c.min.result 0 within,
              c.min.ensures,
              c.row-row.ensures now,
              ap (entry c.args.walks.now c.args.p) same,
            ))
      ];
      small = λ j few. lower_set c.loop-j.costs m c.min.result j GREATEST_COST within less (c.loop-j.invariant.small j few);
    }
