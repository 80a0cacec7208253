use Rattle.std.proofs.Common.{◌∙◌, ◌≡◌, inl, inr, ap, arith, subst, sym}
use Rattle.std.proofs.lemmas.Bool.{cases_lt}
use Rattle.minute_parts.specs.declared.runs.Run.{Run}
use Rattle.walk_costs.specs.Near.{IsAlike}
use Rattle.walk_costs.proofs.RunLaws.{ends, in_century}
use Rattle.walk_costs.proofs.span.alike_until.Goals as goal

pub overflow_add-end : goal.overflow_add-end
overflow_add-end c =
    let parts = c.args.parts.now in
    let table = c.requires.table in
    omega (arith, c.loop-r.invariant.end, ends parts table c.loop-r.r (omega (arith, c.loop-r-test.true, c.requires.within)), in_century parts table)

pub loop-r-preserved : goal.loop-r-preserved
loop-r-preserved c =
    let before = c.loop-r.invariant in
    let r = c.loop-r.r in
    let here : IsAlike c.args.parts.now c.args.least.now c.args.costs.now c.args.run r = record {
      followed = record {
        next = omega (arith, c.loop-r-test.true, c.requires.within);
        alike = sym (ap (λ (run : Run). run.shift) c.run-in-loop-r.ensures) ∙ c.if-run-shift.false ∙ sym before.shift;
        long = omega (arith, c.if-next_end-end.false, c.run_end-next_end.ensures, before.end);
      };
      from = omega (arith, before.from, c.if-run-costs.false);
      to = omega (arith, c.loop-r-test.true);
      inside = sym c.kind.ensures ∙ c.if-kind-inside.false ∙ c.kind-inside.ensures;
      across = sym c.kind-in-loop-r.ensures ∙ c.if-kind-across.false ∙ c.kind-across.ensures;
    } in
    record {
      from = omega (arith, before.from);
      end = c.run_end-next_end.ensures;
      shift = sym (ap (λ (run : Run). run.shift) c.run-in-loop-r.ensures) ∙ c.if-run-shift.false;
      alike = λ k from lt. elim (cases_lt k r) [
        | inl early ↦ before.alike k from early
        | inr late ↦ (
            let there : k ≡ r = omega (arith, lt, late) in
            subst (IsAlike c.args.parts.now c.args.least.now c.args.costs.now c.args.run) (sym there) here)
      ];
    }
