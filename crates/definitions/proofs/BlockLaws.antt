-- Blocks share the sequences of their range, each sequence in one of them.
use Rattle.std.proofs.Common.{◌≡◌, ◌≢◌, ℕ, zero, suc, ◌+◌, ◌<◌, ◌≤◌, ◌⊎◌, inl, inr, Bool, true, false, nat_lt, if◌then◌else◌, min, List, [], ◌∷◌, ◌++◌, refl, sym, ap, ◌∙◌, subst, arith}
use Rattle.std.specs.List.{range_with_len, flat_map, AllByRecursion}
use Rattle.std.proofs.lemmas.Bool.{cases_order, lt-ltb, ltb-true}
use Rattle.signal_base.specs.declared.window.Window.{Window}
use Rattle.definitions.specs.declared.sequence.Sequence.{Sequence}
use Rattle.definitions.specs.declared.block.Block.{Block}
use Rattle.definitions.specs.declared.block.Span.{Span}
use Rattle.definitions.specs.declared.block.Span.TheVariants.{Year, Day, Hour, Minute}
use Rattle.definitions.specs.time.Calendar.{century_minutes}
use Rattle.definitions.specs.answers.Blocks.{span_end, block_from, blocks, items, shorter, children, children_by, IsBlock, IsIn, IsInNone, IsInOne}
use Rattle.definitions.proofs.SpanLaws.{span_after, same_span, within_longer, Reaches, century_reaches, year_reaches, day_reaches, hour_reaches}

-- lists put together
none_then : (xs ys : List Block) (q : Sequence) → IsInNone xs q → IsInNone ys q → IsInNone (xs ++ ys) q
none_then [] ys q a b = b
none_then (x ∷ xs) ys q a b = (a.0, none_then xs ys q a.1 b)

one_then : (xs ys : List Block) (q : Sequence) → IsInOne xs q → IsInNone ys q → IsInOne (xs ++ ys) q
one_then [] ys q a b = absurd a
one_then (x ∷ xs) ys q (inl a) b = inl (a.0, none_then xs ys q a.1 b)
one_then (x ∷ xs) ys q (inr a) b = inr (a.0, one_then xs ys q a.1 b)

then_one : (xs ys : List Block) (q : Sequence) → IsInNone xs q → IsInOne ys q → IsInOne (xs ++ ys) q
then_one [] ys q a b = b
then_one (x ∷ xs) ys q a b = inr (a.0, then_one xs ys q a.1 b)

module _ (announced : Bool) (second : ℕ) (s : Span) (q : Sequence) where
  abbrev from_to : ℕ → ℕ → ℕ → List Block
  from_to n lo hi = blocks announced second s n lo hi

  abbrev first_block : ℕ → ℕ → Block
  first_block lo hi = block_from announced second s lo hi

  -- blocks of another beginning don't have the sequence
  others_none : ((b : Block) → b.announced ≡ announced → b.second ≡ second → ¬ (IsIn b q)) → (n lo hi : ℕ) → IsInNone (from_to n lo hi) q
  unfolding blocks
  others_none never zero lo hi = tt
  others_none never (suc n) lo hi = by_test (nat_lt lo hi) (others_none never n (span_end s lo) hi)
    where
      by_test : (t : Bool) → IsInNone (from_to n (span_end s lo) hi) q
          → IsInNone (if t then first_block lo hi ∷ from_to n (span_end s lo) hi else []) q
      by_test true rest = (never (first_block lo hi) refl refl, rest)
      by_test false rest = tt

  -- blocks that begin later don't have it
  later_none : (n lo hi : ℕ) → hi ≤ century_minutes → q.first < lo → IsInNone (from_to n lo hi) q
  unfolding blocks
  later_none zero lo hi end before = tt
  later_none (suc n) lo hi end before =
      by_test (nat_lt lo hi) refl (λ after. later_none n (span_end s lo) hi end after)
    where
      by_test : (t : Bool) → nat_lt lo hi ≡ t → (q.first < span_end s lo → IsInNone (from_to n (span_end s lo) hi) q)
          → IsInNone (if t then first_block lo hi ∷ from_to n (span_end s lo) hi else []) q
      by_test true e rest =
          let lt = ltb-true lo hi e in
          (λ is. omega (arith, is.not_before, before), rest (omega (arith, span_after s lo (omega (arith, lt, end)), before)))
      by_test false e rest = tt

  -- blocks that reach the end of their range have each sequence of it once
  one_of : q.announced ≡ announced → q.second ≡ second → (n lo hi : ℕ) → hi ≤ century_minutes → Reaches s n lo hi
      → lo ≤ q.first → q.first < hi → IsInOne (from_to n lo hi) q
  unfolding blocks Reaches
  one_of a p zero lo hi end reach from to = absurd (omega (arith, reach, from, to))
  one_of a p (suc n) lo hi end reach from to =
      subst (λ t. IsInOne (if t then first_block lo hi ∷ from_to n (span_end s lo) hi else []) q) (sym (lt-ltb lo hi (omega (arith, from, to))))
      (by_end (λ after. one_of a p n (span_end s lo) hi end (goes_on reach) after to) (cases_order q.first (span_end s lo)))
    where
      goes_on : (hi ≤ lo) ⊎ Reaches s n (span_end s lo) hi → Reaches s n (span_end s lo) hi
      goes_on (inl over) = absurd (omega (arith, over, from, to))
      goes_on (inr rest) = rest

      beyond : span_end s lo ≤ q.first → (span_end s lo ≤ q.first → IsInOne (from_to n (span_end s lo) hi) q) → IsInOne (first_block lo hi ∷ from_to n (span_end s lo) hi) q
      beyond le rest = inr (λ is. omega (arith, is.before_end, le), rest le)

      by_end : (span_end s lo ≤ q.first → IsInOne (from_to n (span_end s lo) hi) q) → (q.first ≡ span_end s lo) ⊎ ((q.first < span_end s lo) ⊎ (span_end s lo < q.first))
          → IsInOne (first_block lo hi ∷ from_to n (span_end s lo) hi) q
      by_end rest (inl same) = beyond (omega (arith, same)) rest
      by_end rest (inr (inl within)) = inl (
        record { announced = a; second = p; not_before = from; before_end = omega (arith, within, to) },
        later_none n (span_end s lo) hi end within,
      )
      by_end rest (inr (inr after)) = beyond (omega (arith, after)) rest

module _ (window : Window) (q : Sequence) (end : window.to ≤ century_minutes) (from : window.from ≤ q.first) (to : q.first < window.to) where
  abbrev years : Bool → ℕ → List Block
  years announced p = blocks announced p Year 100 window.from window.to

  mine : IsInOne (years q.announced q.second) q
  mine = one_of q.announced q.second Year q refl refl 100 window.from window.to end (century_reaches window.from window.to (omega (arith, from, to)) end) from to

  other_second : (announced : Bool) (p : ℕ) → q.second ≢ p → IsInNone (years announced p) q
  other_second announced p apart = others_none announced p Year q (λ b a e is. apart (is.second ∙ e)) 100 window.from window.to

  other_kind : (announced : Bool) (p : ℕ) → q.announced ≢ announced → IsInNone (years announced p) q
  other_kind announced p apart = others_none announced p Year q (λ b a e is. apart (is.announced ∙ a)) 100 window.from window.to

  -- none of the first seconds from a on is the sequence's
  none_from : (a n : ℕ) → q.second < a → IsInNone (flat_map (years q.announced) (range_with_len a n)) q
  none_from a zero lt = tt
  none_from a (suc n) lt =
      none_then (years q.announced a) (flat_map (years q.announced) (range_with_len (a + 1) n)) q
      (other_second q.announced a (λ e. omega (arith, e, lt))) (none_from (a + 1) n (omega (arith, lt)))

  -- one of the n first seconds from a on is
  one_from : (a n : ℕ) → a ≤ q.second → q.second < a + n → IsInOne (flat_map (years q.announced) (range_with_len a n)) q
  one_from a zero from to = absurd (omega (arith, from, to))
  one_from a (suc n) from to = elim (cases_order a q.second) [
    | inl same ↦ one_then (years q.announced a) (flat_map (years q.announced) (range_with_len (a + 1) n)) q
        (subst (λ p. IsInOne (years q.announced p) q) (sym same) mine) (none_from (a + 1) n (omega (arith, same)))
    | inr apart ↦ elim apart [
      | inl before ↦ then_one (years q.announced a) (flat_map (years q.announced) (range_with_len (a + 1) n)) q
          (other_second q.announced a (λ e. omega (arith, e, before))) (one_from (a + 1) n (omega (arith, before)) (omega (arith, to)))
      | inr after ↦ absurd (omega (arith, after, from))
    ]
  ]

  kind_none : (announced : Bool) → q.announced ≢ announced → (a n : ℕ) → IsInNone (flat_map (years announced) (range_with_len a n)) q
  kind_none announced apart a zero = tt
  kind_none announced apart a (suc n) =
      none_then (years announced a) (flat_map (years announced) (range_with_len (a + 1) n)) q (other_kind announced a apart) (kind_none announced apart (a + 1) n)

  by_kind : (b : Bool) → q.announced ≡ b → q.second < (if b then 61 else 60) → IsInOne (items window) q
  by_kind false e lt =
      one_then (flat_map (years false) (range_with_len 0 60)) (flat_map (years true) (range_with_len 0 61)) q
      (subst (λ b. IsInOne (flat_map (years b) (range_with_len 0 60)) q) e (one_from 0 60 (omega arith) (omega (arith, lt))))
      (kind_none true (λ f. absurd (no_way (sym e ∙ f))) 0 61)
    where
      no_way : false ≡ true → ⊥
      no_way f = cc
  by_kind true e lt =
      then_one (flat_map (years false) (range_with_len 0 60)) (flat_map (years true) (range_with_len 0 61)) q
      (kind_none false (λ f. absurd (way_no (sym e ∙ f))) 0 60)
      (subst (λ b. IsInOne (flat_map (years b) (range_with_len 0 61)) q) e (one_from 0 61 (omega arith) (omega (arith, lt))))
    where
      way_no : true ≡ false → ⊥
      way_no f = cc

-- each sequence is in one item
pub items_share : (window : Window) (q : Sequence) → window.to ≤ century_minutes → window.from ≤ q.first → q.first < window.to
    → q.second < (if q.announced then 61 else 60) → IsInOne (items window) q
items_share window q end from to lt = by_kind window q end from to q.announced refl lt

module _ (window : Window) (b : Block) (end : window.to ≤ century_minutes) (is : IsBlock window b) where
  pub in_century : b.hi ≤ century_minutes
  in_century = omega (arith, is.ends, end)

  pub ends_in : (s : Span) → b.span ≡ s → b.hi ≤ span_end s b.lo
  ends_in s e = omega (arith, is.ends, ap (λ s. span_end s b.lo) e)

  pub begins_in : b.lo < century_minutes
  begins_in = omega (arith, is.not_empty, in_century)

  -- each sequence of a longer span is in one child
  children_by_span : (q : Sequence) → IsIn b q → (s : Span) → b.span ≡ s → (s ≡ Minute → ⊥) → IsInOne (children_by s b) q
  children_by_span q has Year e longer =
      one_of b.announced b.second Day q has.announced has.second 366 b.lo b.hi in_century (year_reaches b.lo b.hi begins_in (ends_in Year e)) has.not_before has.before_end
  children_by_span q has Day e longer =
      one_of b.announced b.second Hour q has.announced has.second 24 b.lo b.hi in_century (day_reaches b.lo b.hi (ends_in Day e)) has.not_before has.before_end
  children_by_span q has Hour e longer =
      one_of b.announced b.second Minute q has.announced has.second 60 b.lo b.hi in_century (hour_reaches b.lo b.hi (ends_in Hour e)) has.not_before has.before_end
  children_by_span q has Minute e longer = absurd (longer refl)

pub children_share : (window : Window) (b : Block) (q : Sequence) → window.to ≤ century_minutes → IsBlock window b → b.span ≢ Minute → IsIn b q → IsInOne (children b) q
children_share window b q end is longer has = children_by_span window b end is q has b.span refl longer

-- what is known of the minutes before the first block and of those where a block may be cut
abbrev Begins : Window → Span → ℕ → Type 0
Begins window s lo = (t : ℕ) → window.from ≤ t → t < lo → span_end s t ≤ lo

abbrev Cuts : Window → Span → ℕ → ℕ → Type 0
Cuts window s lo hi = (t : ℕ) → lo ≤ t → t < hi → min (span_end s t) hi ≡ min (span_end s t) window.to

module _ (window : Window) (announced : Bool) (second : ℕ) (s : Span) (hi : ℕ) (few : second < (if announced then 61 else 60)) (end : hi ≤ century_minutes) where
  begins_next : (lo : ℕ) → Begins window s lo → lo < hi → span_end s lo < hi → Begins window s (span_end s lo)
  begins_next lo begins lt more t from before = elim (cases_order t lo) [
    | inl e ↦ at (omega (arith, e))
    | inr apart ↦ elim apart [
      | inl earlier ↦ omega (arith, begins t from earlier, span_after s lo (omega (arith, lt, end)))
      | inr later ↦ at (omega (arith, later))
    ]
  ]
    where
      at : lo ≤ t → span_end s t ≤ span_end s lo
      at le = omega (arith, same_span s lo t (omega (arith, before, more, end)) le before)

  are_blocks : (n lo : ℕ) → window.from ≤ lo → (lo < hi → Begins window s lo) → Cuts window s lo hi
      → AllByRecursion (IsBlock window) (blocks announced second s n lo hi)
  unfolding blocks
  are_blocks zero lo from begins cuts = tt
  are_blocks (suc n) lo from begins cuts =
      by_test (nat_lt lo hi) refl (λ le begins cuts. are_blocks n (span_end s lo) le begins cuts)
    where
      by_test : (t : Bool) → nat_lt lo hi ≡ t
          → (window.from ≤ span_end s lo → (span_end s lo < hi → Begins window s (span_end s lo)) → Cuts window s (span_end s lo) hi
          → AllByRecursion (IsBlock window) (blocks announced second s n (span_end s lo) hi))
          → AllByRecursion (IsBlock window) (if t then block_from announced second s lo hi ∷ blocks announced second s n (span_end s lo) hi else [])
      by_test true e rest =
          let lt = ltb-true lo hi e in
          let after = span_after s lo (omega (arith, lt, end)) in (
            record { second = few; not_empty = omega (arith, lt, after); not_before = from; begins = begins lt; ends = cuts lo (omega arith) lt },
            rest (omega (arith, from, after)) (begins_next lo (begins lt) lt) (λ t le before. cuts t (omega (arith, le, after)) before),
          )
      by_test false e rest = tt

all_then : (P : Block → Type 0) (xs ys : List Block) → AllByRecursion P xs → AllByRecursion P ys → AllByRecursion P (xs ++ ys)
all_then P [] ys a b = b
all_then P (x ∷ xs) ys a b = (a.0, all_then P xs ys a.1 b)

all_seconds : (P : Block → Type 0) (f : ℕ → List Block) (a n : ℕ) → ((p : ℕ) → p < a + n → AllByRecursion P (f p)) → AllByRecursion P (flat_map f (range_with_len a n))
all_seconds P f a zero each = tt
all_seconds P f a (suc n) each =
    all_then P (f a) (flat_map f (range_with_len (a + 1) n)) (each a (omega arith)) (all_seconds P f (a + 1) n (λ p lt. each p (omega arith)))

-- what holds of the years of each first second holds of the items
pub all_items : (P : Block → Type 0) (window : Window)
    → ((announced : Bool) (p : ℕ) → p < (if announced then 61 else 60) → AllByRecursion P (blocks announced p Year 100 window.from window.to))
    → AllByRecursion P (items window)
all_items P window each =
    all_then P (flat_map (λ p. blocks false p Year 100 window.from window.to) (range_with_len 0 60))
    (flat_map (λ p. blocks true p Year 100 window.from window.to) (range_with_len 0 61))
    (all_seconds P (λ p. blocks false p Year 100 window.from window.to) 0 60 (λ p lt. each false p (omega arith)))
    (all_seconds P (λ p. blocks true p Year 100 window.from window.to) 0 61 (λ p lt. each true p (omega arith)))

-- the items of a window are blocks of it
pub items_are_blocks : (window : Window) → window.to ≤ century_minutes → AllByRecursion (IsBlock window) (items window)
items_are_blocks window end =
    all_items (IsBlock window) window
    (λ announced p few. are_blocks window announced p Year window.to few end 100 window.from (omega arith)
    (λ _ t from before. absurd (omega (arith, from, before))) (λ t _ _. refl))

module _ (window : Window) (b : Block) (end : window.to ≤ century_minutes) (is : IsBlock window b) where
  child_blocks : (n : ℕ) (s : Span) → b.span ≡ s → AllByRecursion (IsBlock window) (blocks b.announced b.second (shorter s) n b.lo b.hi)
  child_blocks n s e =
      are_blocks window b.announced b.second (shorter s) b.hi is.second (in_century window b end is) n b.lo is.not_before
      (λ _ t from before. omega (arith, within_longer s t, ap (λ s. span_end s t) e, is.begins t from before))
      (λ t le before.
      let outer = same_span s b.lo t (omega (arith, before, in_century window b end is)) le (omega (arith, before, ends_in window b end is s e)) in
      cut (span_end (shorter s) t) (span_end s b.lo) window.to b.hi (omega (arith, within_longer s t, outer)) (is.ends ∙ ap (λ s. min (span_end s b.lo) window.to) e))
    where
      cut : (x e w h : ℕ) → x ≤ e → h ≡ min e w → min x h ≡ min x w
      cut x e w h le is = omega (arith, le, is)

  children_are_by : (s : Span) → b.span ≡ s → AllByRecursion (IsBlock window) (children_by s b)
  children_are_by Year e = child_blocks 366 Year e
  children_are_by Day e = child_blocks 24 Day e
  children_are_by Hour e = child_blocks 60 Hour e
  children_are_by Minute e = tt

-- the children of a block of a window are blocks of it
pub children_are_blocks : (window : Window) (b : Block) → window.to ≤ century_minutes → IsBlock window b → AllByRecursion (IsBlock window) (children b)
children_are_blocks window b end is = children_are_by window b end is b.span refl
