use Rattle.std.proofs.Common.{◌≡◌, ◌*◌, ℕ, true, false, get_or, Option, Some, min, sym, subst, ap, ◌∙◌}
use Rattle.signal_base.specs.Mask.{has_bit}
use Rattle.definitions.proofs.CostLaws.{IsAtMost, least_below-in, least_below-out, lesser_with, lesser_with_bound}
use Rattle.symbol_cost.specs.declared.limits.TheConstants.{RECEIVER_COST}
use Rattle.symbol_cost.proofs.RowLaws.{lesser_of}
use Rattle.symbol_cost.proofs.grid.cheapest.Goals.{then-has, else-has}
use Rattle.symbol_cost.proofs.grid.cheapest.Goals as goal

pub loop-x-preserved : goal.loop-x-preserved
loop-x-preserved c =
    let x = c.loop-x.x in
    let set = c.args.set in
    let f = λ (y : ℕ). get_or c.args.row.now y 0 in
    let most = c.args.receivers * RECEIVER_COST in
    let before = c.loop-x.invariant in
    elim c.if-has.branch [
      | then-has w ↦ (
          let is = w.least-is ∙ ap Some w.min.ensures ∙ ap (λ n. Some (min n (f x))) w.unwrap_or.ensures ∙ lesser_of c.loop-x.least (f x) in
          let chosen : has_bit set x ≡ true = sym c.has.ensures ∙ w.if-has.true in
          record {
            least = is ∙ ap (λ (o : Option ℕ). lesser_with o (f x)) before.least ∙ sym (least_below-in f set x chosen);
            bound = subst (λ (o : Option ℕ). IsAtMost most o) (sym is) (lesser_with_bound most c.loop-x.least (f x) before.bound (c.requires x));
          })
      | else-has w ↦ (
          let left_out : has_bit set x ≡ false = sym c.has.ensures ∙ w.if-has.false in
          record {
            least = w.least-is ∙ before.least ∙ sym (least_below-out f set x left_out);
            bound = subst (λ (o : Option ℕ). IsAtMost most o) (sym w.least-is) before.bound;
          })
    ]
