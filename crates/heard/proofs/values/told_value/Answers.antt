-- A value is told within one day, by a station that sends DUT1.
use Rattle.std.proofs.Common.{◌≡◌, Bool, true, false, ◌&&◌, refl, sym, ap, ◌∙◌}
use Rattle.definitions.specs.heard.Costs.{lies_in_one_day}
use Rattle.definitions.specs.heard.Dut1.{has_dut1}
use Rattle.symbol_cost.specs.Grid.{cost_at}
use Rattle.heard.proofs.ValueLaws.{none_told, one_told}
use Rattle.heard.proofs.values.told_value.Goals as goal

and_false : (b : Bool) → (b && false) ≡ false
and_false true = refl
and_false false = refl

pub returns-then-not-has_dut1 : goal.returns-then-not-has_dut1
returns-then-not-has_dut1 c =
    let g = c.args.grid.now in
    let has = ap has_dut1 (sym c.station.ensures) ∙ sym c.has_dut1.ensures ∙ c.if-not-has_dut1.true in
    none_told g.station (cost_at g.rows) c.args.window.now.seconds c.args.q.now (ap (λ b. b && lies_in_one_day c.args.window.now.seconds c.args.q.now) has)

pub returns-then-not-lies_in_one_day : goal.returns-then-not-lies_in_one_day
returns-then-not-lies_in_one_day c =
    let g = c.args.grid.now in
    let one = sym c.lies_in_one_day.ensures ∙ c.if-not-lies_in_one_day.true in
    none_told g.station (cost_at g.rows) c.args.window.now.seconds c.args.q.now (ap (λ b. has_dut1 g.station && b) one ∙ and_false (has_dut1 g.station))

pub returns : goal.returns
returns c =
    let g = c.args.grid.now in
    let has = ap has_dut1 (sym c.station.ensures) ∙ sym c.has_dut1.ensures ∙ c.if-not-has_dut1.false in
    one_told g.station (cost_at g.rows) c.args.window.now.seconds c.args.q.now c.cheapest_value.result has (sym c.lies_in_one_day.ensures ∙ c.if-not-lies_in_one_day.false)
    c.cheapest_value.ensures.known c.cheapest_value.ensures.told
