use Rattle.std.proofs.Common.{ℕ, Bool, true, false, List, length, subst, arith}
use Rattle.signal_base.specs.declared.station.Station.{Station}
use Rattle.slot_columns.specs.Layered.{AreLayerCosts}
use Rattle.walk_costs.specs.Walks.{ArePairsOf}
use Rattle.walk_costs.proofs.NeighbourLaws.{date_costs}
use Rattle.walk_costs.proofs.kept.dates_of.Goals as goal

for_both : (P : Bool → Type 0) → P true → P false → (b : Bool) → P b
for_both P with without true = with
for_both P with without false = without

pub returns : goal.returns
returns c =
    let parts = c.args.parts.now in
    let grid = c.args.columns.now in
    let all = c.add_announced.new.all.items in
    let places = c.in_ok-announced.announced.items in
    let known = c.in_ok-announced.ensures in
    let table = c.in_ok-costs.costs in
    date_costs (record { parts = parts; grid = grid }) all places table (omega (arith, known.count))
    (subst (λ (s : Station). (b : Bool) → ArePairsOf parts s b all places (length parts.runs)) c.station-station.ensures
    (for_both (λ b. ArePairsOf parts c.station-station.result b all places (length parts.runs)) known.announced known.unannounced))
    (subst (λ (xs : List (List ℕ)). AreLayerCosts table grid xs all) c.deref.ensures.value
    (subst (λ (ys : List (List ℕ)). AreLayerCosts table grid c.deref.result.now ys) c.deref-2.ensures.value c.in_ok-costs.ensures))
