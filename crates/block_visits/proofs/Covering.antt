-- A visit offers keys of admitted sequences of its blocks, and passes over none whose key is below what it read.
use Rattle.std.proofs.Common.{◌≡◌, ℕ, ◌<◌, ◌≤◌, ◌⊎◌, inl, inr, Bool, true, false, ◌&&◌, nat_le, if◌then◌else◌, min, List, [], ◌∷◌, ◌++◌, Option, Some, None, refl, sym, ap, ◌∙◌, subst, ⊎_elim, arith}
use Rattle.std.specs.List.{All, AllByRecursion, Contains}
use Rattle.std.proofs.lemmas.Bool.{cases_lt, leb-true, leb-false}
use Rattle.std.proofs.lemmas.List.Elements.{All-from_recursion, All-head, All-tail, Contains-push, Contains-append_left, Contains-append_right}
use Rattle.signal_base.specs.declared.window.Window.{Window}
use Rattle.definitions.specs.declared.sequence.Sequence.{Sequence}
use Rattle.definitions.specs.declared.block.Block.{Block}
use Rattle.definitions.specs.declared.block.Span.{Span}
use Rattle.definitions.specs.declared.block.Span.TheVariants.{Year, Day, Hour, Minute}
use Rattle.definitions.specs.time.Calendar.{century_minutes, is_leap_end}
use Rattle.definitions.specs.sequences.Keys.{key_of}
use Rattle.definitions.specs.sequences.Windows.{IsWindow}
use Rattle.definitions.specs.sequences.Walks.{IsLegal, IsSequence, IsWalkable}
use Rattle.definitions.specs.heard.Costs.{Costs, sequence_cost}
use Rattle.definitions.specs.answers.Answers.{IsAdmitted}
use Rattle.definitions.specs.answers.Blocks.{children, first_of, span_end, IsBlock, IsBound, IsBoundBy, IsIn, IsInOne, block_key}
use Rattle.block_visits.specs.Facts.{Facts}
use Rattle.block_visits.specs.Visits.{limit_at, offered_by, offered_under, opened_under, AreVisits, IsBlockKey, IsCovered, IsVisit}

-- what is told of a window holds of one that is equal to it
pub in_century : (w v : Window) → w ≡ v → IsWindow w → v.to ≤ century_minutes
in_century w v same is = (subst IsWindow same is).century

-- the sequence is in some of the blocks
abbrev pub IsInSome : List Block → Sequence → Type 0
IsInSome [] q = ⊥
IsInSome (b ∷ bs) q = IsIn b q ⊎ IsInSome bs q

pub in_some_then : (xs ys : List Block) (q : Sequence) → IsInSome xs q → IsInSome (xs ++ ys) q
in_some_then [] ys q is = absurd is
in_some_then (x ∷ xs) ys q (inl is) = inl is
in_some_then (x ∷ xs) ys q (inr is) = inr (in_some_then xs ys q is)

pub then_in_some : (xs ys : List Block) (q : Sequence) → IsInSome ys q → IsInSome (xs ++ ys) q
then_in_some [] ys q is = is
then_in_some (x ∷ xs) ys q is = inr (then_in_some xs ys q is)

pub in_some_from_one : (xs : List Block) (q : Sequence) → IsInOne xs q → IsInSome xs q
in_some_from_one [] q is = absurd is
in_some_from_one (x ∷ xs) q (inl is) = inl is.0
in_some_from_one (x ∷ xs) q (inr is) = inr (in_some_from_one xs q is.1)

pub all_then : {X : Type 0} (P : X → Type 0) (xs ys : List X) → AllByRecursion P xs → AllByRecursion P ys → AllByRecursion P (xs ++ ys)
all_then P [] ys a b = b
all_then P (x ∷ xs) ys a b = (a.0, all_then P xs ys a.1 b)

-- the first sequence of a minute is its only one
only_one : (window : Window) (b : Block) (q : Sequence) → IsBlock window b → b.span ≡ Minute → IsIn b q → q ≡ first_of b
only_one window b q is span in_it = λ i. record { first = first i; second = in_it.second i; announced = in_it.announced i }
  where
    ends : b.hi ≡ min (span_end Minute b.lo) window.to
    ends = is.ends ∙ ap (λ s. min (span_end s b.lo) window.to) span

    first : q.first ≡ b.lo
    first = omega (arith, ends, in_it.not_before, in_it.before_end)

second_fits : (s : ℕ) (t : Bool) → s < (if t then 61 else 60) → s ≤ 60
second_fits s true lt = omega arith
second_fits s false lt = omega arith

walkable_is_sequence : (window : Window) (q : Sequence) → window.to ≤ century_minutes → IsWalkable window q → IsSequence q
walkable_is_sequence window q century is = record {
  first_minute = omega (arith, is.before_end);
  first_second = second_fits q.second (q.announced && is_leap_end q.first) is.second;
}

-- what the blocks that a block opens have, the children have
pub opened_all : (P : Block → Type 0) (limit : ℕ) (b : Block) (bound : Option ℕ) → AllByRecursion P (children b) → AllByRecursion P (opened_under limit b bound)
opened_all P limit b None all = tt
opened_all P limit b (Some n) all = by_test (nat_le (block_key n b) limit)
  where
    by_test : (t : Bool) → AllByRecursion P (if t then children b else [])
    by_test true = all
    by_test false = tt

-- a sequence of some block is a sequence of b, where all of them lie in b
some_within : (b : Block) (xs : List Block) (q : Sequence) → AllByRecursion (λ c. (q : Sequence) → IsIn c q → IsIn b q) xs → IsInSome xs q → IsIn b q
some_within b [] q within is = absurd is
some_within b (x ∷ xs) q within (inl is) = within.0 q is
some_within b (x ∷ xs) q within (inr is) = some_within b xs q within.1 is

in_some_cases : (xs ys : List Block) (q : Sequence) → IsInSome (xs ++ ys) q → IsInSome xs q ⊎ IsInSome ys q
in_some_cases [] ys q is = inr is
in_some_cases (x ∷ xs) ys q (inl is) = inl (inl is)
in_some_cases (x ∷ xs) ys q (inr is) = ⊎_elim (λ s. inl (inr s)) inr (in_some_cases xs ys q is)

module _ (costs : Costs) (window : Window) (ceiling : ℕ) (facts : Facts costs window ceiling) where
  abbrev cost : Sequence → ℕ
  cost q = sequence_cost costs window q

  abbrev key : Sequence → ℕ
  key q = key_of (sequence_cost costs window q) q

  abbrev Admitted : Sequence → Type 0
  Admitted q = IsAdmitted (IsLegal window) (sequence_cost costs window) ceiling q

  pub legal_is_sequence : (q : Sequence) → IsLegal window q → IsSequence q
  legal_is_sequence q legal = walkable_is_sequence window q facts.century legal.0

  -- a minute's own sequence, of which a bound is the cost
  pub minute_bound : (b : Block) (n : ℕ) → b.span ≡ Minute → IsBound costs window b (Some n) → IsBoundBy Minute costs window b (Some n)
  minute_bound b n span bound = subst (λ s. IsBoundBy s costs window b (Some n)) span bound

  pub minute_key : (b : Block) (n : ℕ) → b.span ≡ Minute → IsBound costs window b (Some n) → block_key n b ≡ key (first_of b)
  minute_key b n span bound = let minute = minute_bound b n span bound in ap (λ c. key_of c (first_of b)) minute.1

  -- a minute offers the key of its sequence; another block has a child with the sequence
  found_in : (b : Block) (n : ℕ) (q : Sequence) → IsBlock window b → IsBound costs window b (Some n) → IsIn b q → (s : Span) → b.span ≡ s
      → Contains (offered_by b.span (block_key n b)) (key q) ⊎ IsInSome (children b) q
  found_in b n q block bound in_it Minute span =
      let same : q ≡ first_of b = only_one window b q block span in_it in
      let is : block_key n b ≡ key q = minute_key b n span bound ∙ ap key (sym same) in
      let has : Contains (block_key n b ∷ []) (key q) = subst (λ k. Contains (block_key n b ∷ []) k) is (Contains-push [] (block_key n b)) in
      inl (subst (λ s. Contains (offered_by s (block_key n b)) (key q)) (sym span) has)
  found_in b n q block bound in_it Year span = inr (in_some_from_one (children b) q (facts.one b q block (λ m. absurd cc) in_it))
  found_in b n q block bound in_it Day span = inr (in_some_from_one (children b) q (facts.one b q block (λ m. absurd cc) in_it))
  found_in b n q block bound in_it Hour span = inr (in_some_from_one (children b) q (facts.one b q block (λ m. absurd cc) in_it))

  -- a legal sequence of a block is offered, or in a block that is opened, or its key is above the limit
  met : (limit : ℕ) (b : Block) (bound : Option ℕ) (q : Sequence) → IsBlock window b → IsBound costs window b bound → IsIn b q → IsLegal window q
      → Contains (offered_under limit b bound) (key q) ⊎ (IsInSome (opened_under limit b bound) q ⊎ (limit < key q))
  met limit b None q block bound in_it legal = absurd (facts.none b q block bound in_it legal)
  met limit b (Some n) q block bound in_it legal = by_test (nat_le (block_key n b) limit) refl
    where
      by_test : (t : Bool) → nat_le (block_key n b) limit ≡ t
          → Contains (if t then offered_by b.span (block_key n b) else []) (key q) ⊎ (IsInSome (if t then children b else []) q ⊎ (limit < key q))
      by_test true e = ⊎_elim inl (λ some. inr (inl some)) (found_in b n q block bound in_it b.span refl)
      by_test false e = let above = leb-false (block_key n b) limit e in inr (inr (omega (arith, above, facts.key b n q block bound in_it legal)))

  -- a key is among the offered ones, or above the floor
  abbrev pub IsMet : List ℕ → ℕ → ℕ → Type 0
  IsMet keys floor k = Contains keys k ⊎ (floor < k)

  pub covers : (reads : List ℕ) (bs : List Block) (keys : List ℕ) (floor : ℕ) → AllByRecursion (IsBlock window) bs
      → AreVisits costs window ceiling bs reads keys → All (λ seen. floor ≤ seen) reads → (q : Sequence) → Admitted q → IsInSome bs q → IsMet keys floor (key q)
  covers [] [] keys floor blocks visits floors q admitted is = absurd is
  covers [] (b ∷ bs) keys floor blocks visits floors q admitted is = absurd visits
  covers (seen ∷ reads) [] keys floor blocks visits floors q admitted is = absurd is
  covers (seen ∷ reads) (b ∷ bs) keys floor blocks visits floors q admitted is =
      let own = offered_under (limit_at ceiling seen) b visits.0 in
      let opened = opened_under (limit_at ceiling seen) b visits.0 in
      let all : AllByRecursion (IsBlock window) (opened ++ bs) =
      all_then (IsBlock window) opened bs (opened_all (IsBlock window) (limit_at ceiling seen) b visits.0 (facts.blocks b blocks.0)) blocks.1 in
      let at : IsMet (own ++ visits.1) floor (key q) → IsMet keys floor (key q) = subst (λ ks. IsMet ks floor (key q)) (sym visits.3) in
      let later : IsInSome (opened ++ bs) q → IsMet keys floor (key q) =
      λ some. at (⊎_elim (λ has. inl (Contains-append_right own visits.1 (key q) has)) inr
      (covers reads (opened ++ bs) visits.1 floor all visits.4 (All-tail (λ seen. floor ≤ seen) seen reads floors) q admitted some)) in
      let here : IsIn b q → IsMet keys floor (key q) =
      λ in_it. ⊎_elim
      (λ has. at (inl (Contains-append_left own visits.1 (key q) has)))
      (λ more. ⊎_elim (λ some. later (in_some_then opened bs q some)) (λ above. inr (over above)) more)
      (met (limit_at ceiling seen) b visits.0 q blocks.0 visits.2 in_it admitted.0) in
      ⊎_elim here (λ in_later. later (then_in_some opened bs q in_later)) is
    where
      over : limit_at ceiling seen < key q → floor < key q
      over above =
          let least = All-head (λ seen. floor ≤ seen) seen reads floors in
          omega (arith, above, least, facts.keys_within (cost q) q (legal_is_sequence q admitted.0) admitted.1)

  -- the key of an admitted sequence of some block
  abbrev IsKeyOfSome : List Block → ℕ → Type 0
  IsKeyOfSome bs k = (q : Sequence) × IsInSome bs q × Admitted q × (key q ≡ k)

  pub first_is_in : (b : Block) → IsBlock window b → IsIn b (first_of b)
  first_is_in b block = record { announced = refl; second = refl; not_before = omega arith; before_end = block.not_empty }

  -- a minute offers the key of an admitted sequence
  own_admitted : (seen : ℕ) (b : Block) (bs : List Block) (bound : Option ℕ) → IsBlock window b → IsBound costs window b bound
      → AllByRecursion (IsKeyOfSome (b ∷ bs)) (offered_under (limit_at ceiling seen) b bound)
  own_admitted seen b bs None block bound = tt
  own_admitted seen b bs (Some n) block bound = by_test (nat_le (block_key n b) (limit_at ceiling seen)) refl
    where
      by_span : (s : Span) → b.span ≡ s → block_key n b ≤ limit_at ceiling seen → AllByRecursion (IsKeyOfSome (b ∷ bs)) (offered_by s (block_key n b))
      by_span Minute span le =
          let minute = minute_bound b n span bound in
          let is : block_key n b ≡ key (first_of b) = minute_key b n span bound in
          let cheap : cost (first_of b) ≤ ceiling =
          ⊎_elim (λ over. let beyond = facts.keys_beyond (cost (first_of b)) (first_of b) (legal_is_sequence (first_of b) minute.0) over in absurd (omega (arith, beyond, is, le)))
          (λ under. under) (cases_lt ceiling (cost (first_of b))) in
          ((first_of b, inl (first_is_in b block), (minute.0, cheap), sym is), tt)
      by_span Year span le = tt
      by_span Day span le = tt
      by_span Hour span le = tt

      by_test : (t : Bool) → nat_le (block_key n b) (limit_at ceiling seen) ≡ t
          → AllByRecursion (IsKeyOfSome (b ∷ bs)) (if t then offered_by b.span (block_key n b) else [])
      by_test true e = by_span b.span refl (leb-true (block_key n b) (limit_at ceiling seen) e)
      by_test false e = tt

  pub all_weaker : {X : Type 0} (P Q : X → Type 0) → ((x : X) → P x → Q x) → (xs : List X) → AllByRecursion P xs → AllByRecursion Q xs
  all_weaker P Q to [] all = tt
  all_weaker P Q to (x ∷ xs) all = (to x all.0, all_weaker P Q to xs all.1)

  pub offers_admitted : (reads : List ℕ) (bs : List Block) (keys : List ℕ) → AllByRecursion (IsBlock window) bs
      → AreVisits costs window ceiling bs reads keys → AllByRecursion (IsKeyOfSome bs) keys
  offers_admitted [] [] keys blocks visits = subst (AllByRecursion (IsKeyOfSome [])) (sym visits) tt
  offers_admitted [] (b ∷ bs) keys blocks visits = absurd visits
  offers_admitted (seen ∷ reads) [] keys blocks visits = absurd visits
  offers_admitted (seen ∷ reads) (b ∷ bs) keys blocks visits =
      let own = offered_under (limit_at ceiling seen) b visits.0 in
      let opened = opened_under (limit_at ceiling seen) b visits.0 in
      let all : AllByRecursion (IsBlock window) (opened ++ bs) =
      all_then (IsBlock window) opened bs (opened_all (IsBlock window) (limit_at ceiling seen) b visits.0 (facts.blocks b blocks.0)) blocks.1 in
      let lies : AllByRecursion (λ c. (q : Sequence) → IsIn c q → IsIn b q) opened =
      opened_all (λ c. (q : Sequence) → IsIn c q → IsIn b q) (limit_at ceiling seen) b visits.0 (facts.within b blocks.0) in
      let others : AllByRecursion (IsKeyOfSome (b ∷ bs)) visits.1 =
      all_weaker (IsKeyOfSome (opened ++ bs)) (IsKeyOfSome (b ∷ bs))
      (λ k is. (is.0, ⊎_elim (λ some. inl (some_within b opened is.0 lies some)) inr (in_some_cases opened bs is.0 is.1), is.2, is.3))
      visits.1 (offers_admitted reads (opened ++ bs) visits.1 all visits.4) in
      subst (AllByRecursion (IsKeyOfSome (b ∷ bs))) (sym visits.3)
      (all_then (IsKeyOfSome (b ∷ bs)) own visits.1 (own_admitted seen b bs visits.0 blocks.0 visits.2) others)

  -- the same of one block
  pub visit_covers : (b : Block) (reads keys : List ℕ) (floor : ℕ) → IsBlock window b → IsVisit costs window ceiling b reads keys
      → All (λ seen. floor ≤ seen) reads → IsCovered costs window ceiling b keys floor
  visit_covers b reads keys floor block visit floors k is =
      subst (IsMet keys floor) is.2 (covers reads (b ∷ []) keys floor (block, tt) visit floors is.0 is.1.1 (inl is.1.0))

  pub visit_admitted : (b : Block) (reads keys : List ℕ) → IsBlock window b → IsVisit costs window ceiling b reads keys
      → All (IsBlockKey costs window ceiling b) keys
  visit_admitted b reads keys block visit =
      All-from_recursion (IsBlockKey costs window ceiling b) keys
      (all_weaker (IsKeyOfSome (b ∷ [])) (IsBlockKey costs window ceiling b)
      (λ k is. (is.0, (⊎_elim (λ here. here) (λ none. absurd none) is.1, is.2), is.3)) keys (offers_admitted reads (b ∷ []) keys (block, tt) visit))
