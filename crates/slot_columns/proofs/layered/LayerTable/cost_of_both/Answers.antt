use Rattle.std.proofs.Common.{◌≡◌, ◌+◌, ◌*◌, ◌^◌, ◌<◌, ℕ, bit_or, List, get_or, sym, subst, ap, ◌∙◌, arith}
use Rattle.definitions.specs.heard.Costs.{sum_below}
use Rattle.slot_columns.specs.Layered.{AreLayerSums, LayerSums, term_of_both}
use Rattle.slot_columns.proofs.LayerLaws.{no_term_yet, one_term_more, place_read}
use Rattle.slot_columns.proofs.layered.LayerTable.cost_of_both.Goals as goal

-- the table as contracts see it
seen : (own now : LayerSums) (i j p k cost : ℕ) → own ≡ now → AreLayerSums own → i < now.pairs → j < now.pairs → p < 60 → k < own.terms
    → cost ≡ get_or now.common p 0 + sum_below k (term_of_both now i j p) → (row : List ℕ) (place also both : ℕ)
    → row ≡ get_or own.rows (p * own.terms + k) row → place ≡ get_or own.places (i * own.terms + k) place → also ≡ get_or own.places (j * own.terms + k) also
    → both ≡ bit_or place also
    → (cost + get_or row both 0 ≡ get_or now.common p 0 + sum_below (k + 1) (term_of_both now i j p)) × (cost + get_or row both 0 < 2 ^ 32)
seen own now i j p k cost same are pair other second lt is row place also both row_is place_is also_is both_is =
    subst
    (λ b. (cost + get_or row b 0 ≡ get_or now.common p 0 + sum_below (k + 1) (term_of_both now i j p)) × (cost + get_or row b 0 < 2 ^ 32)) (sym both_is)
    (one_term_more now i j p (subst AreLayerSums same are) pair other second k cost (subst (λ (t : LayerSums). k < t.terms) same lt) is row place also
    (subst (λ (t : LayerSums). row ≡ get_or t.rows (p * t.terms + k) row) same row_is)
    (subst (λ (t : LayerSums). place ≡ get_or t.places (i * t.terms + k) place) same place_is)
    (subst (λ (t : LayerSums). also ≡ get_or t.places (j * t.terms + k) also) same also_is))

pub loop-k-init : goal.loop-k-init
loop-k-init c =
    record { spent = ap (λ (t : LayerSums). get_or t.common c.args.p 0) c.self.view_is ∙ no_term_yet c.args.self.now c.args.i c.args.j c.args.p }

place_is : (own now : LayerSums) (i k place : ℕ) → own ≡ now → AreLayerSums own → i < now.pairs → k < own.terms → place ≡ get_or own.places (i * own.terms + k) place → place < 32
place_is own now i k place same are pair lt is = place_read own i are (subst (λ (t : LayerSums). i < t.pairs) (sym same) pair) k place lt is

pub together-place-requires-clause-one : goal.together-place-requires-clause-one
together-place-requires-clause-one c =
    place_is _ c.args.self.now c.args.i c.loop-k.k c.index.result.now c.self.view_is c.self.invariant c.requires.pair c.loop-k-test.true c.index.ensures

pub overflow_add-cost : goal.overflow_add-cost
overflow_add-cost c =
    omega (
      arith,
      (seen _ c.args.self.now c.args.i c.args.j c.args.p c.loop-k.k c.loop-k.cost c.self.view_is c.self.invariant c.requires.pair c.requires.other c.requires.second
          c.loop-k-test.true c.loop-k.invariant.spent c.index-in-loop-k-2.result.now c.index.result.now c.index-in-loop-k.result.now c.together-place.result
          c.index-in-loop-k-2.ensures c.index.ensures c.index-in-loop-k.ensures c.together-place.ensures.place).1,
    )

pub loop-k-preserved : goal.loop-k-preserved
loop-k-preserved c = record {
  spent = (seen _ c.args.self.now c.args.i c.args.j c.args.p c.loop-k.k c.loop-k.cost c.self.view_is c.self.invariant c.requires.pair c.requires.other c.requires.second
      c.loop-k-test.true c.loop-k.invariant.spent c.index-in-loop-k-2.result.now c.index.result.now c.index-in-loop-k.result.now c.together-place.result
      c.index-in-loop-k-2.ensures c.index.ensures c.index-in-loop-k.ensures c.together-place.ensures.place).0;
}
