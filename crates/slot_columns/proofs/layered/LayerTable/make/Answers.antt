use Rattle.std.proofs.Common.{◌≡◌, ℕ, List, length, refl, subst, sym, arith}
use Rattle.symbol_cost.specs.Grid.{Grid}
use Rattle.slot_columns.specs.declared.terms.Term.{Term}
use Rattle.slot_columns.specs.Layered.{AreLayerCosts, ArePlaces, AreTermRows, LayerSums}
use Rattle.slot_columns.specs.Tables.{AreTables}
use Rattle.slot_columns.proofs.LayerLaws.{columns_fit, layer_costs, layer_sums, room}
use Rattle.slot_columns.proofs.layered.LayerTable.make.Goals as goal

-- the tables as they are passed on
passed : (grid : Grid) (first later passed_first passed_later : List (List ℕ)) → passed_first ≡ first → passed_later ≡ later → AreTables grid first later
    → AreTables grid passed_first passed_later
passed grid first later passed_first passed_later one two are =
    subst (λ t. AreTables grid t passed_later) (sym one) (subst (λ t. AreTables grid first t) (sym two) are)

pub common_costs-common-requires-clause-room : goal.common_costs-common-requires-clause-room
common_costs-common-requires-clause-room c = λ p second.
    let own = c.columns.inside in
    let first = c.deref-first.result.now in
    let later = c.deref-later.result.now in
    let tables = passed own.slots own.first.items own.later.items first later c.deref-first.ensures.value c.deref-later.ensures.value c.columns.invariant in
    columns_fit own.slots first later tables p second c.in_ok-made.made.first c.in_ok-made.made.later

pub rows_of-requires-clause-room : goal.rows_of-requires-clause-room
rows_of-requires-clause-room c =
    let own = c.columns.inside in
    let first = c.deref-first.result.now in
    let later = c.deref-later.result.now in
    let tables = passed own.slots own.first.items own.later.items first later c.deref-first.ensures.value c.deref-later.ensures.value c.columns.invariant in
    room own.slots first later tables

pub invariant_of-result : goal.invariant_of-result
invariant_of-result c =
    let own = c.columns.inside in
    let made = c.in_ok-made.made in
    let first = c.deref-first.result.now in
    let later = c.deref-later.result.now in
    let tables = passed own.slots own.first.items own.later.items first later c.deref-first.ensures.value c.deref-later.ensures.value c.columns.invariant in
    let firsts = c.args.firsts.now in
    let rests = c.args.rests.now in
    let width : c.len.result ≡ length made.terms.items = omega (arith, c.len.ensures, made.terms.ok.0) in
    layer_sums own.slots first later tables firsts rests made.first made.later made.terms.items c.in_ok-made.ensures _ refl c.requires width c.common_costs-common.ensures.costs
    (subst (λ (ts : List Term). AreTermRows first later ts c.in_ok-rows.rows.items 60) c.deref.ensures.value c.in_ok-rows.ensures)
    (subst (λ (ts : List Term). ArePlaces firsts rests ts c.in_ok-places.places.items (length firsts)) c.deref-2.ensures.value c.in_ok-places.ensures)
    c.common_costs-common.ensures.count

pub returns : goal.returns
returns c =
    let own = c.columns.inside in
    let made = c.in_ok-made.made in
    let first = c.deref-first.result.now in
    let later = c.deref-later.result.now in
    let tables = passed own.slots own.first.items own.later.items first later c.deref-first.ensures.value c.deref-later.ensures.value c.columns.invariant in
    let firsts = c.args.firsts.now in
    let rests = c.args.rests.now in
    let width : c.len.result ≡ length made.terms.items = omega (arith, c.len.ensures, made.terms.ok.0) in
    let table : LayerSums = record {
      pairs = length firsts;
      terms = c.len.result;
      common = c.common_costs-common.result;
      rows = c.in_ok-rows.rows.items;
      places = c.in_ok-places.places.items;
    } in
    subst (λ (g : Grid). AreLayerCosts table g firsts rests) c.columns.view_is
    (layer_costs own.slots first later tables firsts rests made.first made.later made.terms.items c.in_ok-made.ensures table refl c.requires width c.common_costs-common.ensures.costs
    (subst (λ (ts : List Term). AreTermRows first later ts c.in_ok-rows.rows.items 60) c.deref.ensures.value c.in_ok-rows.ensures)
    (subst (λ (ts : List Term). ArePlaces firsts rests ts c.in_ok-places.places.items (length firsts)) c.deref-2.ensures.value c.in_ok-places.ensures))
