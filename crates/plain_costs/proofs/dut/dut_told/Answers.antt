use Rattle.std.proofs.Common.{◌≡◌, ◌==◌, List, filter, ℤ, refl, ap, ◌∙◌, sym, arith, eq-eqb}
use Rattle.std.proofs.lemmas.Bool.{ne_eqb}
use Rattle.definitions.specs.heard.Costs.{dut_among}
use Rattle.definitions.specs.heard.Dut1.{dut1_values}
use Rattle.plain_costs.specs.Tenths.{value_count}
use Rattle.plain_costs.proofs.ValueLaws.{all_values, told_with, told_without, values_below}
use Rattle.plain_costs.proofs.dut.dut_told.Goals.{then-told-i, else-told-i}
use Rattle.plain_costs.proofs.dut.dut_told.Goals as goal

pub loop-i-init : goal.loop-i-init
loop-i-init c = λ cost by. refl

pub loop-i-preserved : goal.loop-i-preserved
loop-i-preserved c = λ cost by.
    let i = c.loop-i.i in
    let station = c.args.station in
    let low = c.least_told-least.result in
    let before = c.loop-i.invariant cost by in
    let here = by i (omega (arith, c.loop-i-test.true, c.value_count-i-end.ensures.count)) in
    elim c.if-told-i.branch [
      | then-told-i w ↦ (w.found-is ∙ w.with_value-found.ensures ∙ told_with cost station i low c.loop-i.found before (eq-eqb _ _ (sym here ∙ w.if-told-i.true)))
      | else-told-i w ↦ (w.found-is ∙ told_without cost station i low c.loop-i.found before (ne_eqb _ _ (λ e. w.if-told-i.false (here ∙ e))))
    ]

pub returns : goal.returns
returns c = λ cost by.
    let end : c.loop-i.i ≡ value_count c.args.station = omega (arith, c.value_count-i-end.ensures.count) in
    let values = ap (values_below c.args.station) end ∙ all_values c.args.station in
    let low = c.least_told-least.result in
    c.loop-i.invariant cost by
    ∙ ap (λ (ds : List ℤ). dut_among (filter (λ d. cost d == low) ds)) values
    ∙ ap (λ n. dut_among (filter (λ d. cost d == n) (dut1_values c.args.station))) (c.least_told-least.ensures.least cost by)
