-- The items of a window: years, in the order of their first index.
use Rattle.std.proofs.Common.{◌≡◌, ℕ, zero, suc, ◌+◌, ◌*◌, ◌<◌, ◌≤◌, Bool, true, false, nat_lt, if◌then◌else◌, List, [], ◌∷◌, ◌++◌, map, slice_index, refl, sym, subst, arith}
use Rattle.std.specs.List.{range_with_len, flat_map, AllByRecursion}
use Rattle.std.specs.List.Sorted.{IsStrictlyIncreasing}
use Rattle.std.proofs.lemmas.Bool.{ltb-true}
use Rattle.signal_base.specs.declared.window.Window.{Window}
use Rattle.definitions.specs.declared.block.Block.{Block}
use Rattle.definitions.specs.declared.block.Span.TheVariants.{Year}
use Rattle.definitions.specs.time.Calendar.{century_minutes}
use Rattle.definitions.specs.sequences.Keys.{index_of}
use Rattle.definitions.specs.answers.Blocks.{span_end, block_from, blocks, items, first_of}
use Rattle.definitions.proofs.SpanLaws.{span_after}
use Rattle.definitions.proofs.BlockLaws.{all_items}
use Rattle.definitions.proofs.ChildLaws.{each_block}

pub items_are_years : (window : Window) → window.to ≤ century_minutes → AllByRecursion (λ b. b.span ≡ Year) (items window)
items_are_years window end =
    all_items (λ b. b.span ≡ Year) window
    (λ announced p few. each_block announced p Year window.to end (λ b. b.span ≡ Year) window.from (λ t from to. refl) 100 window.from (omega arith))

abbrev first_index : Block → ℕ
first_index b = index_of (first_of b)

-- the first indices rise, from n on and up to m
RisesWithin : ℕ → ℕ → List Block → Type 0
RisesWithin n m [] = n ≤ m
RisesWithin n m (b ∷ bs) = (n ≤ first_index b) × RisesWithin (first_index b + 1) m bs

wider : (k n m l : ℕ) (bs : List Block) → k ≤ n → m ≤ l → RisesWithin n m bs → RisesWithin k l bs
unfolding RisesWithin
wider k n m l [] before after is = omega (arith, before, after, is)
wider k n m l (b ∷ bs) before after is = (omega (arith, before, is.0), wider (first_index b + 1) (first_index b + 1) m l bs (omega arith) after is.1)

rise_on : (n m l : ℕ) (xs ys : List Block) → RisesWithin n m xs → RisesWithin m l ys → RisesWithin n l (xs ++ ys)
unfolding RisesWithin
rise_on n m l [] ys here more = wider n m l l ys here (omega arith) more
rise_on n m l (x ∷ xs) ys here more = (here.0, rise_on (first_index x + 1) m l xs ys here.1 more)

module _ (window : Window) (end : window.to ≤ century_minutes) (announced : Bool) where
  abbrev years : ℕ → ℕ → ℕ → List Block
  years p n lo = blocks announced p Year n lo window.to

  abbrev base : ℕ
  base = if announced then 61 else 0

  years_rise : (p n lo i : ℕ) → i ≤ (base + p) * century_minutes + lo → i ≤ (base + p + 1) * century_minutes → RisesWithin i ((base + p + 1) * century_minutes) (years p n lo)
  unfolding blocks RisesWithin
  years_rise p zero lo i from to = to
  years_rise p (suc n) lo i from to = by_test (nat_lt lo window.to) refl (λ a b. years_rise p n (span_end Year lo) ((base + p) * century_minutes + lo + 1) a b)
    where
      by_test : (t : Bool) → nat_lt lo window.to ≡ t
          → ((base + p) * century_minutes + lo + 1 ≤ (base + p) * century_minutes + span_end Year lo → (base + p) * century_minutes + lo + 1 ≤ (base + p + 1) * century_minutes
          → RisesWithin ((base + p) * century_minutes + lo + 1) ((base + p + 1) * century_minutes) (years p n (span_end Year lo)))
          → RisesWithin i ((base + p + 1) * century_minutes) (if t then block_from announced p Year lo window.to ∷ years p n (span_end Year lo) else [])
      by_test true e rest =
          let lt = ltb-true lo window.to e in
          (from, rest (omega (arith, span_after Year lo (omega (arith, lt, end)))) (omega (arith, lt, end)))
      by_test false e rest = to

  seconds_rise : (a n : ℕ) → RisesWithin ((base + a) * century_minutes) ((base + a + n) * century_minutes) (flat_map (λ p. years p 100 window.from) (range_with_len a n))
  unfolding RisesWithin
  seconds_rise a zero = omega arith
  seconds_rise a (suc n) =
      rise_on ((base + a) * century_minutes) ((base + a + 1) * century_minutes) ((base + a + suc n) * century_minutes)
      (years a 100 window.from) (flat_map (λ p. years p 100 window.from) (range_with_len (a + 1) n))
      (years_rise a 100 window.from ((base + a) * century_minutes) (omega arith) (omega arith))
      (wider _ ((base + (a + 1)) * century_minutes) ((base + (a + 1) + n) * century_minutes) _ _ (omega arith) (omega arith) (seconds_rise (a + 1) n))

increasing : (n m : ℕ) (bs : List Block) → RisesWithin n m bs → IsStrictlyIncreasing (map first_index bs)
unfolding RisesWithin
increasing n m [] is k lt = absurd (omega (arith, lt))
increasing n m (b ∷ []) is k lt = absurd (omega (arith, lt))
increasing n m (b ∷ c ∷ cs) is zero lt = omega (arith, is.1.0)
increasing n m (b ∷ c ∷ cs) is (suc k) lt =
    let next : suc k + 1 ≡ suc (k + 1) = omega arith in
    subst (λ j. slice_index (map first_index (c ∷ cs)) k < slice_index (map first_index (b ∷ c ∷ cs)) j) (sym next)
    (increasing (first_index b + 1) m (c ∷ cs) is.1 k (omega (arith, lt)))

-- the items stand in the order of their first index
pub items_rise : (window : Window) → window.to ≤ century_minutes → IsStrictlyIncreasing (map (λ b. index_of (first_of b)) (items window))
items_rise window end =
    increasing 0 (122 * century_minutes) (items window)
    (rise_on 0 (60 * century_minutes) (122 * century_minutes)
    (flat_map (λ p. blocks false p Year 100 window.from window.to) (range_with_len 0 60))
    (flat_map (λ p. blocks true p Year 100 window.from window.to) (range_with_len 0 61))
    (seconds_rise window end false 0 60)
    (wider (60 * century_minutes) (61 * century_minutes) (122 * century_minutes) (122 * century_minutes) _ (omega arith) (omega arith) (seconds_rise window end true 0 61)))
