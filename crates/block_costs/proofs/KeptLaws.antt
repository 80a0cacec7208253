-- Ranges that are kept with their layers, and what these cost.
use Rattle.std.proofs.Common.{◌≡◌, ℕ, ◌<◌, inl, inr, false, List, [], ◌∷◌, ◌++◌, length, sym, subst, ◌∙◌, arith}
use Rattle.std.proofs.Math.ListN.{get_or-append}
use Rattle.std.proofs.lemmas.Bool.{cases_lt}
use Rattle.std.proofs.lemmas.List.{get_or_push, length_push}
use Rattle.slot_columns.specs.Layered.{AreLayerCosts, LayerSums, part_at}
use Rattle.minute_parts.specs.Walks.{later_minutes}
use Rattle.walk_costs.specs.Walks.{PricedParts}
use Rattle.block_costs.specs.declared.kept.Range.{Range}
use Rattle.block_costs.specs.Keeping.{AreGathered, AreKept, AreKeptLayers, no_range, range_at}
use Rattle.block_costs.proofs.UnionLaws.{layers_cost}

pub none_gathered : (w : PricedParts) (ranges : List Range) (firsts rests : List (List ℕ)) → ranges ≡ [] → firsts ≡ [] → rests ≡ [] → AreGathered w ranges firsts rests
none_gathered w ranges firsts rests one two three =
    subst (λ rs. AreGathered w rs firsts rests) (sym one)
    (subst (λ xs. AreGathered w [] xs rests) (sym two)
    (subst (λ ys. AreGathered w [] [] ys) (sym three) (record { as_many_firsts = omega arith; as_many_rests = omega arith; each = λ i lt. absurd (omega (arith, lt)) })))

-- with one more
gathered_push : (w : PricedParts) (ranges : List Range) (firsts rests : List (List ℕ)) (range : Range) (first rest : List ℕ) → AreGathered w ranges firsts rests
    → AreKeptLayers w range first rest → AreGathered w (ranges ++ range ∷ []) (firsts ++ first ∷ []) (rests ++ rest ∷ [])
gathered_push w ranges firsts rests range first rest are new =
    let n : ℕ = length ranges in
    record {
      as_many_firsts = omega (arith, length_push firsts first, length_push ranges range, are.as_many_firsts);
      as_many_rests = omega (arith, length_push rests rest, length_push ranges range, are.as_many_rests);
      each = λ i lt. elim (cases_lt i n) [
        | inl early ↦ subst (λ (r : Range). AreKeptLayers w r (part_at (firsts ++ first ∷ []) i) (part_at (rests ++ rest ∷ []) i))
            (sym (get_or-append ranges (range ∷ []) no_range i early))
            (subst (λ (x : List ℕ). AreKeptLayers w (range_at ranges i) x (part_at (rests ++ rest ∷ []) i))
            (sym (get_or-append firsts (first ∷ []) [] i (omega (arith, early, are.as_many_firsts))))
            (subst (λ (y : List ℕ). AreKeptLayers w (range_at ranges i) (part_at firsts i) y)
            (sym (get_or-append rests (rest ∷ []) [] i (omega (arith, early, are.as_many_rests)))) (are.each i early)))
        | inr late ↦ (
            let last : n ≡ i = omega (arith, lt, late, length_push ranges range) in
            subst (λ (r : Range). AreKeptLayers w r (part_at (firsts ++ first ∷ []) i) (part_at (rests ++ rest ∷ []) i))
            (sym (get_or_push ranges range no_range i last))
            (subst (λ (x : List ℕ). AreKeptLayers w range x (part_at (rests ++ rest ∷ []) i))
            (sym (get_or_push firsts first [] i (omega (arith, last, are.as_many_firsts))))
            (subst (λ (y : List ℕ). AreKeptLayers w range first y) (sym (get_or_push rests rest [] i (omega (arith, last, are.as_many_rests)))) new)))
      ];
    }

pub gathered_more : (w : PricedParts) (ranges more_ranges : List Range) (firsts rests more_firsts more_rests : List (List ℕ)) (range : Range) (first rest : List ℕ)
    → AreGathered w ranges firsts rests → AreKeptLayers w range first rest
    → more_ranges ≡ ranges ++ range ∷ [] → more_firsts ≡ firsts ++ first ∷ [] → more_rests ≡ rests ++ rest ∷ [] → AreGathered w more_ranges more_firsts more_rests
gathered_more w ranges more_ranges firsts rests more_firsts more_rests range first rest are new one two three =
    subst (λ rs. AreGathered w rs more_firsts more_rests) (sym one)
    (subst (λ xs. AreGathered w (ranges ++ range ∷ []) xs more_rests) (sym two)
    (subst (λ ys. AreGathered w (ranges ++ range ∷ []) (firsts ++ first ∷ []) ys) (sym three) (gathered_push w ranges firsts rests range first rest are new)))

-- what the layers cost is what the unions do
pub kept_costs : (w : PricedParts) (ranges : List Range) (firsts rests : List (List ℕ)) (table : LayerSums) → AreGathered w ranges firsts rests
    → AreLayerCosts table w.grid firsts rests → AreKept w ranges table
kept_costs w ranges firsts rests table are costs = record {
  count = costs.count ∙ are.as_many_firsts;
  each = λ i p lt second.
      let range = range_at ranges i in
      let within : i < length firsts = omega (arith, lt, are.as_many_firsts) in
      record {
        cost_is = λ sets unions.
            costs.each i p within second
            ∙ layers_cost w.grid false p range.lo range.hi (later_minutes (length w.grid.rows) 59) (record { first = part_at firsts i; rest = part_at rests i }) second
            (omega (arith, second)) (are.each i lt) sets unions;
        bound = costs.small i p within second;
      };
}
