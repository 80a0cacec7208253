-- A block is passed over by its floor: a visit of it by reads that are all the same offers nothing.
use Rattle.std.proofs.Common.{◌≡◌, ℕ, zero, suc, ◌-◌, ◌<◌, ◌≤◌, Bool, true, false, nat_le, if◌then◌else◌, List, [], ◌∷◌, ◌++◌, length, append-nil, Option, Some, None, MatchBool, refl, sym, ap, ◌∙◌, subst, arith}
use Rattle.std.specs.List.{AllByRecursion, FoldsTo, flat_map}
use Rattle.std.proofs.lemmas.Bool.{leb-true, ltb-true}
use Rattle.std.proofs.lemmas.Grind.{flat_map-append}
use Rattle.signal_base.specs.declared.window.Window.{Window}
use Rattle.definitions.specs.declared.sequence.Sequence.{Sequence}
use Rattle.definitions.specs.declared.block.Block.{Block}
use Rattle.definitions.specs.declared.block.Span.{Span}
use Rattle.definitions.specs.declared.block.Span.TheVariants.{Year, Day, Hour, Minute}
use Rattle.definitions.specs.sequences.Keys.{index_of, key_of}
use Rattle.definitions.specs.sequences.Walks.{IsLegal}
use Rattle.definitions.specs.heard.Costs.{Costs, sequence_cost}
use Rattle.definitions.specs.answers.Blocks.{block_key, children, children_by, first_of, shorter, IsBlock, IsBound, IsIn}
use Rattle.definitions.proofs.BoundExistLaws.{a_bound}
use Rattle.field_tables.specs.Floors.{IsFloor}
use Rattle.race_words.specs.declared.view.View.{View}
use Rattle.race_words.specs.Views.{after_limit, after_limits}
use Rattle.block_visits.specs.Facts.{Facts}
use Rattle.block_visits.specs.Visits.{limit_at, offered_by, offered_under, opened_under}
use Rattle.workers.specs.Steps.{Step, AreSteps, HasWalked, NeedsNone, Offers, Takes, depth, keys_of, offered_at}
use Rattle.workers.specs.Passing.{ArePassing, CountsAs, HasLooked, HasPassed, is_above}
use Rattle.block_visits.proofs.Covering.{all_then, all_weaker, first_is_in, minute_bound, minute_key, opened_all}
use Rattle.workers.proofs.Walking.{steps_then}

all_both : {X : Type 0} (P Q : X → Type 0) (xs : List X) → AllByRecursion P xs → AllByRecursion Q xs → AllByRecursion (λ x. P x × Q x) xs
all_both P Q [] a b = tt
all_both P Q (x ∷ xs) a b = ((a.0, b.0), all_both P Q xs a.1 b.1)

all_of_each : {X Y : Type 0} (P : Y → Type 0) (f : X → List Y) (xs : List X) → ((x : X) → AllByRecursion P (f x)) → AllByRecursion P (flat_map f xs)
all_of_each P f [] each = tt
all_of_each P f (x ∷ xs) each = all_then P (f x) (flat_map f xs) (each x) (all_of_each P f xs each)

depth_of_shorter : (s : Span) (n : ℕ) → depth s ≤ suc n → depth (shorter s) ≤ n
depth_of_shorter Year n le = omega (arith, le)
depth_of_shorter Day n le = omega (arith, le)
depth_of_shorter Hour n le = omega arith
depth_of_shorter Minute n le = omega arith

least_depth : (s : Span) → depth s ≤ 0 → s ≡ Minute
least_depth Year le = absurd (omega (arith, le))
least_depth Day le = absurd (omega (arith, le))
least_depth Hour le = absurd (omega (arith, le))
least_depth Minute le = refl

-- a minute opens nothing
minute_opens : (limit : ℕ) (b : Block) (bound : Option ℕ) → b.span ≡ Minute → opened_under limit b bound ≡ []
minute_opens limit b None span = refl
minute_opens limit b (Some n) span = by_test (nat_le (block_key n b) limit)
  where
    by_test : (t : Bool) → (if t then children b else []) ≡ []
    by_test true = ap (λ s. children_by s b) span
    by_test false = refl

-- the first sequence of a block has the least index
first_index : (b : Block) (q : Sequence) → IsIn b q → index_of (first_of b) ≤ index_of q
first_index b q is = by_fields q.announced is.announced q.second is.second q.first is.not_before
  where
    by_fields : (a : Bool) → a ≡ b.announced → (s : ℕ) → s ≡ b.second → (f : ℕ) → b.lo ≤ f
        → index_of (first_of b) ≤ index_of (record { first = f; second = s; announced = a })
    by_fields a e s g f le = rw (e, g) (omega (arith, le))

none_left : {X : Type 0} (xs ys : List X) → xs ++ ys ≡ [] → (xs ≡ []) × (ys ≡ [])
none_left [] ys e = (refl, e)
none_left (x ∷ xs) ys e = absurd cc

-- looks in a row may be counted from the first one or from the last
limits_turn : (n key : ℕ) (v : View) → after_limits n key (after_limit key v) ≡ after_limit key (after_limits n key v)
limits_turn zero key v = refl
limits_turn (suc n) key v = ap (after_limit key) (limits_turn n key v)

module _ (costs : Costs) (window : Window) (ceiling seen : ℕ) where
  -- a block's own step by this read
  abbrev own_step : Block → Step
  own_step b = record { block = b; bound = (a_bound costs window b).0; seen = seen }

  -- the blocks that it opens
  abbrev opened_by : Block → List Block
  opened_by b = opened_under (limit_at ceiling seen) b (a_bound costs window b).0

  -- the steps of a visit of a block all of whose reads are this one, over so many spans
  abbrev pub steps_by : ℕ → Block → List Step
  steps_by zero b = own_step b ∷ []
  steps_by (suc n) b = own_step b ∷ flat_map (steps_by n) (opened_by b)

  all_are : (f : Block → List Step) (bs : List Block) → AllByRecursion (λ c. AreSteps costs window ceiling (c ∷ []) (f c)) bs
      → AreSteps costs window ceiling bs (flat_map f bs)
  all_are f [] each = tt
  all_are f (c ∷ cs) each = steps_then costs window ceiling (f c) (flat_map f cs) (c ∷ []) cs each.0 (all_are f cs each.1)

  all_none : (f : Block → List Step) (bs : List Block) → AllByRecursion (λ c. keys_of ceiling (f c) ≡ []) bs → keys_of ceiling (flat_map f bs) ≡ []
  all_none f [] each = refl
  all_none f (c ∷ cs) each =
      flat_map-append (offered_at ceiling) (f c) (flat_map f cs)
      ∙ (ap (λ ks. ks ++ keys_of ceiling (flat_map f cs)) each.0 ∙ all_none f cs each.1)

  -- each of them reads the same
  steps_see : (n : ℕ) (b : Block) → AllByRecursion (λ s. s.seen ≡ seen) (steps_by n b)
  steps_see zero b = (refl, tt)
  steps_see (suc n) b = (refl, all_of_each (λ (s : Step). s.seen ≡ seen) (steps_by n) (opened_by b) (steps_see n))

  -- no legal sequence of the block has a key that isn't above the limit
  abbrev IsBeyond : Block → Type 0
  IsBeyond b = (q : Sequence) → IsIn b q → IsLegal window q → limit_at ceiling seen < key_of (sequence_cost costs window q) q

  -- so a floor tells
  beyond_by_floor : (b : Block) (floor : Option ℕ) → IsFloor costs window b floor → is_above (limit_at ceiling seen) b floor ≡ true → IsBeyond b
  beyond_by_floor b None is_floor above q is legal = absurd (is_floor q is legal)
  beyond_by_floor b (Some n) is_floor above q is legal =
      omega (arith, is_floor q is legal, first_index b q is, ltb-true (limit_at ceiling seen) (block_key n b) above)

  module _ (facts : Facts costs window ceiling) where
    abbrev IsAtDepth : ℕ → Block → Type 0
    IsAtDepth n c = IsBlock window c × (depth c.span ≤ n)

    -- what a block opens is of a shorter span
    opened_at_depth : (n : ℕ) (b : Block) → IsBlock window b → depth b.span ≤ suc n → AllByRecursion (IsAtDepth n) (opened_by b)
    opened_at_depth n b block le =
        let spans = all_weaker costs window ceiling facts (λ (c : Block). c.span ≡ shorter b.span) (λ (c : Block). depth c.span ≤ n)
        (λ c is. subst (λ s. depth s ≤ n) (sym is) (depth_of_shorter b.span n le)) (children b) (facts.spans b block) in
        opened_all (IsAtDepth n) (limit_at ceiling seen) b (a_bound costs window b).0
        (all_both (IsBlock window) (λ (c : Block). depth c.span ≤ n) (children b) (facts.blocks b block) spans)

    steps_are : (n : ℕ) (b : Block) → IsBlock window b → depth b.span ≤ n → AreSteps costs window ceiling (b ∷ []) (steps_by n b)
    steps_are zero b block le = (
      refl,
      (a_bound costs window b).1,
      subst (λ bs. AreSteps costs window ceiling bs [])
          (sym (append-nil (opened_by b) ∙ minute_opens (limit_at ceiling seen) b (a_bound costs window b).0 (least_depth b.span le))) tt,
    )
    steps_are (suc n) b block le =
        let each = all_weaker costs window ceiling facts (IsAtDepth n) (λ c. AreSteps costs window ceiling (c ∷ []) (steps_by n c))
        (λ c at. steps_are n c at.0 at.1) (opened_by b) (opened_at_depth n b block le) in (
          refl,
          (a_bound costs window b).1,
          subst (λ bs. AreSteps costs window ceiling bs (flat_map (steps_by n) (opened_by b))) (sym (append-nil (opened_by b)))
              (all_are (steps_by n) (opened_by b) each),
        )

    -- a minute that isn't passed over is legal and costs its bound, so that its key is above the limit
    offers_none : (b : Block) (bound : Option ℕ) → IsBlock window b → IsBound costs window b bound → IsBeyond b → offered_under (limit_at ceiling seen) b bound ≡ []
    offers_none b None block bound beyond = refl
    offers_none b (Some n) block bound beyond = by_test (nat_le (block_key n b) (limit_at ceiling seen)) refl
      where
        by_span : (s : Span) → b.span ≡ s → block_key n b ≤ limit_at ceiling seen → offered_by s (block_key n b) ≡ []
        by_span Minute span le =
            let legal = (minute_bound costs window ceiling facts b n span bound).0 in
            let over = beyond (first_of b) (first_is_in costs window ceiling facts b block) legal in
            absurd (omega (arith, le, over, minute_key costs window ceiling facts b n span bound))
        by_span Year span le = refl
        by_span Day span le = refl
        by_span Hour span le = refl

        by_test : (t : Bool) → nat_le (block_key n b) (limit_at ceiling seen) ≡ t → (if t then offered_by b.span (block_key n b) else []) ≡ []
        by_test true e = by_span b.span refl (leb-true (block_key n b) (limit_at ceiling seen) e)
        by_test false e = refl

    abbrev IsBeyondBlock : Block → Type 0
    IsBeyondBlock c = IsBlock window c × IsBeyond c

    -- the sequences of what a block opens are the block's
    opened_beyond : (b : Block) → IsBlock window b → IsBeyond b → AllByRecursion IsBeyondBlock (opened_by b)
    opened_beyond b block beyond =
        let lies = all_weaker costs window ceiling facts (λ c. (q : Sequence) → IsIn c q → IsIn b q) IsBeyond
        (λ c within q is. beyond q (within q is)) (children b) (facts.within b block) in
        opened_all IsBeyondBlock (limit_at ceiling seen) b (a_bound costs window b).0
        (all_both (IsBlock window) IsBeyond (children b) (facts.blocks b block) lies)

    steps_offer_none : (n : ℕ) (b : Block) → IsBlock window b → IsBeyond b → keys_of ceiling (steps_by n b) ≡ []
    steps_offer_none zero b block beyond =
        ap (λ ks. ks ++ []) (offers_none b (a_bound costs window b).0 block (a_bound costs window b).1 beyond)
    steps_offer_none (suc n) b block beyond =
        let each = all_weaker costs window ceiling facts IsBeyondBlock (λ c. keys_of ceiling (steps_by n c) ≡ [])
        (λ c is. steps_offer_none n c is.0 is.1) (opened_by b) (opened_beyond b block beyond) in
        ap (λ ks. ks ++ keys_of ceiling (flat_map (steps_by n) (opened_by b))) (offers_none b (a_bound costs window b).0 block (a_bound costs window b).1 beyond)
        ∙ all_none (steps_by n) (opened_by b) each

    -- the law of passing over
    pub passes : (b : Block) (floor : Option ℕ) → IsBlock window b → IsFloor costs window b floor → is_above (limit_at ceiling seen) b floor ≡ true
        → ArePassing costs window ceiling b seen (steps_by (depth b.span) b)
    passes b floor block is_floor above = record {
      are = steps_are (depth b.span) b block (omega arith);
      same = steps_see (depth b.span) b;
      none = steps_offer_none (depth b.span) b block (beyond_by_floor b floor is_floor above);
    }

  -- a view after so many looks that found the same
  abbrev seen_times : ℕ → View → View
  seen_times zero v = v
  seen_times (suc n) v = seen_times n (after_limit seen v)

  seen_limits : (n : ℕ) (v : View) → seen_times (suc n) v ≡ after_limits n seen v
  seen_limits zero v = refl
  seen_limits (suc n) v = seen_limits n (after_limit seen v) ∙ limits_turn n seen v

  takes_all : (steps : List Step) (v : View) → AllByRecursion (λ s. s.seen ≡ seen) steps → keys_of ceiling steps ≡ [] → seen ≤ v.floor
      → FoldsTo (Takes ceiling) v steps (seen_times (length steps) v)
  takes_all [] v same none low = refl
  takes_all (s ∷ ss) v same none low =
      let parts = none_left (offered_at ceiling s) (keys_of ceiling ss) none in (
        after_limit seen v,
        (
          omega (arith, low, same.0),
          subst (λ ks. Offers ks (after_limit s.seen v) (after_limit seen v)) (sym parts.0) (ap (λ k. after_limit k v) (sym same.0)),
        ),
        takes_all ss (after_limit seen v) same.1 parts.1 (omega (arith, low)),
      )

  -- a read that counts as the reads of all steps passes the block over
  pub has_looked : (b : Block) (floor : Option ℕ) (more : ℕ) (v w : View) → CountsAs costs window ceiling b floor seen more → seen ≤ v.floor
      → w ≡ after_limits more seen v → HasLooked costs window ceiling b floor seen v w
  has_looked b floor more v w counts low is = by_test (is_above (limit_at ceiling seen) b floor) counts
    where
      by_test : (t : Bool) → MatchBool t ((steps : List Step) × ArePassing costs window ceiling b seen steps × (length steps ≡ suc more)) (more ≡ 0)
          → MatchBool t (HasPassed costs window ceiling b v w) (w ≡ after_limit seen v)
      by_test true passing = record {
        steps = passing.0;
        are = passing.1.are;
        none = passing.1.none;
        view = subst (FoldsTo (Takes ceiling) v passing.0) (ap (λ n. seen_times n v) passing.2 ∙ (seen_limits more v ∙ sym is))
            (takes_all passing.0 v passing.1.same passing.1.none low);
      }
      by_test false none = is ∙ ap (λ n. after_limits n seen v) none

-- the steps of a visit of the block by reads that all find this
abbrev pub passing_steps : Costs → Window → ℕ → Block → ℕ → List Step
passing_steps costs window ceiling b seen = steps_by costs window ceiling seen (depth b.span) b

-- how many looks more a read counts as, by what it finds
abbrev pub more_looks : Costs → Window → ℕ → Block → Option ℕ → ℕ → ℕ
more_looks costs window ceiling b floor seen =
    if is_above (limit_at ceiling seen) b floor then length (passing_steps costs window ceiling b seen) - 1 else 0

some_steps : (costs : Costs) (window : Window) (ceiling seen n : ℕ) (b : Block)
    → length (steps_by costs window ceiling seen n b) ≡ suc (length (steps_by costs window ceiling seen n b) - 1)
some_steps costs window ceiling seen zero b = refl
some_steps costs window ceiling seen (suc n) b = omega arith

pub counts_as : (costs : Costs) (window : Window) (ceiling : ℕ) → Facts costs window ceiling → (b : Block) (floor : Option ℕ) → IsBlock window b → IsFloor costs window b floor
    → (seen : ℕ) → CountsAs costs window ceiling b floor seen (more_looks costs window ceiling b floor seen)
counts_as costs window ceiling facts b floor block is_floor seen = by_test (is_above (limit_at ceiling seen) b floor) refl
  where
    by_test : (t : Bool) → is_above (limit_at ceiling seen) b floor ≡ t
        → MatchBool t
        ((steps : List Step) × ArePassing costs window ceiling b seen steps
        × (length steps ≡ suc (if t then length (passing_steps costs window ceiling b seen) - 1 else 0)))
        ((if t then length (passing_steps costs window ceiling b seen) - 1 else 0) ≡ 0)
    by_test true e = (
      passing_steps costs window ceiling b seen,
      passes costs window ceiling seen facts b floor block is_floor e,
      some_steps costs window ceiling seen (depth b.span) b,
    )
    by_test false e = refl

-- what needs no steps keeps those of a block that was passed over
module _ {P : Type 0} (told : P → Step → P → Type 0) (needless : NeedsNone told) where
  nothing_told : (steps : List Step) (p : P) → FoldsTo told p steps p
  nothing_told [] p = refl
  nothing_told (s ∷ ss) p = (p, needless p s, nothing_told ss p)

  pub walked_by_floor : {costs : Costs} {window : Window} {ceiling : ℕ} {b : Block} {v w : View} (p : P) → HasPassed costs window ceiling b v w
      → HasWalked told costs window ceiling b v w p p
  walked_by_floor p passed = record { steps = passed.steps; are = passed.are; view = passed.view; kept = nothing_told passed.steps p }
