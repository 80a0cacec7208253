-- What the parts of a range are: each lies in it, and they follow one another.
use Rattle.std.proofs.Common.{◌≡◌, ◌≢◌, ℕ, zero, suc, ◌<◌, ◌≤◌, ◌⊎◌, inl, inr, Bool, true, false, nat_lt, if◌then◌else◌, min, List, [], ◌∷◌, refl, sym, ap, subst, arith}
use Rattle.std.specs.List.{AllByRecursion}
use Rattle.std.proofs.lemmas.Bool.{cases_lt, ltb-true, ltb-false, le-ltb}
use Rattle.signal_base.specs.declared.window.Window.{Window}
use Rattle.definitions.specs.declared.sequence.Sequence.{Sequence}
use Rattle.definitions.specs.declared.block.Block.{Block}
use Rattle.definitions.specs.declared.block.Span.{Span}
use Rattle.definitions.specs.declared.block.Span.TheVariants.{Year, Day, Hour, Minute}
use Rattle.definitions.specs.time.Calendar.{century_minutes}
use Rattle.definitions.specs.answers.Blocks.{span_end, block_from, blocks, children, children_by, shorter, IsBlock, IsIn, CoverInOrder}
use Rattle.definitions.proofs.SpanLaws.{span_after, Reaches, year_reaches, day_reaches, hour_reaches}
use Rattle.definitions.proofs.BlockLaws.{in_century, ends_in, begins_in}

module _ (announced : Bool) (second : ℕ) (s : Span) (hi : ℕ) where
  abbrev from_on : ℕ → ℕ → List Block
  from_on n lo = blocks announced second s n lo hi

  abbrev block_at : ℕ → Block
  block_at lo = block_from announced second s lo hi

  -- what holds of each block that begins at `from` or later holds of all blocks from there on
  pub each_block : hi ≤ century_minutes → (P : Block → Type 0) (from : ℕ) → ((t : ℕ) → from ≤ t → t < hi → P (block_at t))
      → (n lo : ℕ) → from ≤ lo → AllByRecursion P (from_on n lo)
  unfolding blocks
  each_block end P from each zero lo le = tt
  each_block end P from each (suc n) lo le = by_test (nat_lt lo hi) refl (λ after. each_block end P from each n (span_end s lo) after)
    where
      by_test : (t : Bool) → nat_lt lo hi ≡ t → (from ≤ span_end s lo → AllByRecursion P (from_on n (span_end s lo)))
          → AllByRecursion P (if t then block_at lo ∷ from_on n (span_end s lo) else [])
      by_test true e rest =
          let lt = ltb-true lo hi e in
          (each lo le lt, rest (omega (arith, le, span_after s lo (omega (arith, lt, end)))))
      by_test false e rest = tt

  -- there are none at the end
  past : (n lo : ℕ) → hi ≤ lo → from_on n lo ≡ []
  unfolding blocks
  past zero lo le = refl
  past (suc n) lo le = ap (λ t. if t then block_at lo ∷ from_on n (span_end s lo) else []) (le-ltb lo hi le)

  -- blocks that reach the end follow one another up to it
  pub cover : (n lo : ℕ) → Reaches s n lo hi → lo ≤ hi → CoverInOrder lo hi (from_on n lo)
  unfolding blocks Reaches
  cover zero lo reach le = omega (arith, reach, le)
  cover (suc n) lo reach le = by_test (nat_lt lo hi) refl (λ more within. cover n (span_end s lo) more within)
    where
      reaches_on : lo < hi → (hi ≤ lo) ⊎ Reaches s n (span_end s lo) hi → Reaches s n (span_end s lo) hi
      reaches_on lt (inl over) = absurd (omega (arith, over, lt))
      reaches_on lt (inr more) = more

      rest : lo < hi → (Reaches s n (span_end s lo) hi → span_end s lo ≤ hi → CoverInOrder (span_end s lo) hi (from_on n (span_end s lo)))
          → (hi < span_end s lo) ⊎ (span_end s lo ≤ hi) → CoverInOrder (min (span_end s lo) hi) hi (from_on n (span_end s lo))
      rest lt more (inl cut) =
          let here : min (span_end s lo) hi ≡ hi = omega (arith, cut) in
          subst (λ bs. CoverInOrder (min (span_end s lo) hi) hi bs) (sym (past n (span_end s lo) (omega (arith, cut)))) here
      rest lt more (inr within) =
          let here : min (span_end s lo) hi ≡ span_end s lo = omega (arith, within) in
          subst (λ m. CoverInOrder m hi (from_on n (span_end s lo))) (sym here) (more (reaches_on lt reach) within)

      by_test : (t : Bool) → nat_lt lo hi ≡ t
          → (Reaches s n (span_end s lo) hi → span_end s lo ≤ hi → CoverInOrder (span_end s lo) hi (from_on n (span_end s lo)))
          → CoverInOrder lo hi (if t then block_at lo ∷ from_on n (span_end s lo) else [])
      by_test true e more = (refl, rest (ltb-true lo hi e) more (cases_lt hi (span_end s lo)))
      by_test false e more = omega (arith, le, ltb-false lo hi e)

module _ (window : Window) (b : Block) (end : window.to ≤ century_minutes) (is : IsBlock window b) where
  -- what holds of each block of the next shorter span in the block's range holds of its children
  each_child : (P : Block → Type 0) → ((t : ℕ) → b.lo ≤ t → t < b.hi → P (block_from b.announced b.second (shorter b.span) t b.hi))
      → AllByRecursion P (children b)
  each_child P each = by_span b.span each
    where
      parts : (n : ℕ) (s : Span) → ((t : ℕ) → b.lo ≤ t → t < b.hi → P (block_from b.announced b.second s t b.hi)) → AllByRecursion P (blocks b.announced b.second s n b.lo b.hi)
      parts n s each = each_block b.announced b.second s b.hi (in_century window b end is) P b.lo each n b.lo (omega arith)

      by_span : (s : Span) → ((t : ℕ) → b.lo ≤ t → t < b.hi → P (block_from b.announced b.second (shorter s) t b.hi)) → AllByRecursion P (children_by s b)
      by_span Year each = parts 366 Day each
      by_span Day each = parts 24 Hour each
      by_span Hour each = parts 60 Minute each
      by_span Minute each = tt

  cover_by : (s : Span) → b.span ≡ s → (s ≡ Minute → ⊥) → CoverInOrder b.lo b.hi (children_by s b)
  cover_by Year e longer = cover b.announced b.second Day b.hi 366 b.lo (year_reaches b.lo b.hi (begins_in window b end is) (ends_in window b end is Year e)) (omega (arith, is.not_empty))
  cover_by Day e longer = cover b.announced b.second Hour b.hi 24 b.lo (day_reaches b.lo b.hi (ends_in window b end is Day e)) (omega (arith, is.not_empty))
  cover_by Hour e longer = cover b.announced b.second Minute b.hi 60 b.lo (hour_reaches b.lo b.hi (ends_in window b end is Hour e)) (omega (arith, is.not_empty))
  cover_by Minute e longer = absurd (longer refl)

-- a child has no sequence that isn't one of its block
pub children_lie_within : (window : Window) (b : Block) → window.to ≤ century_minutes → IsBlock window b
    → AllByRecursion (λ c. (q : Sequence) → IsIn c q → IsIn b q) (children b)
children_lie_within window b end is =
    each_child window b end is (λ c. (q : Sequence) → IsIn c q → IsIn b q) (λ t from to q has.
    record { announced = has.announced; second = has.second; not_before = omega (arith, from, has.not_before); before_end = omega (arith, has.before_end) })

-- its span is the next shorter one
pub children_spans : (window : Window) (b : Block) → window.to ≤ century_minutes → IsBlock window b
    → AllByRecursion (λ c. c.span ≡ shorter b.span) (children b)
children_spans window b end is = each_child window b end is (λ c. c.span ≡ shorter b.span) (λ t from to. refl)

-- they follow one another
pub children_follow : (window : Window) (b : Block) → window.to ≤ century_minutes → IsBlock window b → b.span ≢ Minute → CoverInOrder b.lo b.hi (children b)
children_follow window b end is longer = cover_by window b end is b.span refl longer

no_children : (b : Block) (s : Span) → s ≡ Minute → children_by s b ≡ []
no_children b Year e = absurd cc
no_children b Day e = absurd cc
no_children b Hour e = absurd cc
no_children b Minute e = refl

-- a minute has none
pub minute_has_none : (b : Block) → b.span ≡ Minute → children b ≡ []
minute_has_none b e = no_children b b.span e
