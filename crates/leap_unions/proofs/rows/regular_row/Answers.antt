use Rattle.std.proofs.Common.{◌≡◌, ◌+◌, ◌*◌, ℕ, inl, inr, slice_index, sym, subst, arith, rules}
use Rattle.std.proofs.lemmas.Bool.{cases_lt}
use Rattle.minute_parts.specs.Unions.{IsUnionOver}
use Rattle.leap_unions.proofs.rows.regular_row.Goals as goal

pub loop-m-preserved : goal.loop-m-preserved
loop-m-preserved c = record {
  long = search rules;
  done = λ m s before lt.
      let now : ℕ = c.loop-m.m in
      let row = c.put_part.new.row in
      elim (cases_lt m now) [
        | inl early ↦
            (let kept = c.put_part.ensures.before (60 * m + s) (omega (arith, early, lt)) in
            subst (IsUnionOver c.args.unions.now.station c.args.announced (c.args.lo + m) (c.args.hi + m) s) (sym kept) (c.loop-m.invariant.done m s early lt))
        | inr late ↦
            (let same : m ≡ now = omega (arith, late, before) in
            subst (λ n. IsUnionOver c.args.unions.now.station c.args.announced (c.args.lo + n) (c.args.hi + n) s (slice_index row (60 * n + s))) (sym same)
            (subst (IsUnionOver c.args.unions.now.station c.args.announced (c.args.lo + now) (c.args.hi + now) s) (sym (c.put_part.ensures.here s lt)) (c.part_after-part.ensures s lt)))
      ];
}
