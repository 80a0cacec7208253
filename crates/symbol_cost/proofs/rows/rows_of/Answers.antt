use Rattle.std.proofs.Common.{◌≡◌, ℕ, ◌∙◌, List, length, replicate, ap, arith}
use Rattle.std.proofs.lemmas.List.{length-replicate, with_items_is}
use Rattle.std.specs.List.{each_same}
use Rattle.symbol_cost.proofs.RowLaws.{free_rows, no_costs}
use Rattle.symbol_cost.proofs.rows.rows_of.Goals as goal

-- the rows as they are made
pub score-requires-clause-slots : goal.score-requires-clause-slots
score-requires-clause-slots c =
    let zeros : c.in_ok-rows.rows.items ≡ replicate c.args.seconds no_costs = c.in_ok-rows.ensures.items_if_clones_equal (λ y h. each_same no_costs y h.whole) in
    rw (c.as_mut_slice.ensures.value, zeros) (omega (arith, length-replicate c.args.seconds no_costs))

pub score-requires-clause-free : goal.score-requires-clause-free
score-requires-clause-free c k x =
    let zeros : c.in_ok-rows.rows.items ≡ replicate c.args.seconds no_costs = c.in_ok-rows.ensures.items_if_clones_equal (λ y h. each_same no_costs y h.whole) in
    rw (c.as_mut_slice.ensures.value, zeros) (free_rows c.args.seconds k x)

pub returns : goal.returns
returns c =
    let zeros : c.in_ok-rows.rows.items ≡ replicate c.args.seconds no_costs = c.in_ok-rows.ensures.items_if_clones_equal (λ y h. each_same no_costs y h.whole) in
    let kept = c.as_mut_slice.ensures.value ∙ zeros in
    let scored = c.score.ensures in
    let long = scored.slots ∙ ap (λ (rows : List (List ℕ)). length rows) kept ∙ length-replicate c.args.seconds no_costs in
    rw (with_items_is c.in_ok-rows.rows c.score.new.rows (scored.slots ∙ c.as_mut_slice.ensures.len)) (record {
      slots = long;
      each = λ k x h s. scored.each k x (omega (arith, scored.slots, long)) s;
      small = scored.small;
    })
