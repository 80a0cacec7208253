-- A key is offered no more often than its sequence is in one of the blocks that are visited.
use Rattle.std.proofs.Common.{◌≡◌, ◌≢◌, ℕ, ◌+◌, ◌≤◌, ◌⊎◌, inl, inr, Bool, true, false, not, ◌&&◌, ◌==◌, nat_le, nat_lt, cond, if◌then◌else◌, List, [], ◌∷◌, ◌++◌, Option, Some, None, refl, sym, ap, ◌∙◌, subst, ⊎_elim, arith}
use Rattle.std.specs.List.{AllByRecursion, Contains, sum_by}
use Rattle.std.proofs.lemmas.Bool.{cases_Bool, and_from, and_parts, eq-eqb, eqb-true, lt-ltb, ltb-true, le-leb, leb-true}
use Rattle.std.proofs.lemmas.List.Elements.{All-contains, Contains-push, Contains-append_left, Contains-append_right}
use Rattle.std.proofs.lemmas.List.Sums.{sum_by-cons, sum_by-append}
use Rattle.signal_base.specs.declared.window.Window.{Window}
use Rattle.definitions.specs.declared.sequence.Sequence.{Sequence}
use Rattle.definitions.specs.declared.block.Block.{Block}
use Rattle.definitions.specs.declared.block.Span.{Span}
use Rattle.definitions.specs.declared.block.Span.TheVariants.{Year, Day, Hour, Minute}
use Rattle.definitions.specs.sequences.Keys.{key_of, sequence_of}
use Rattle.definitions.specs.sequences.Walks.{IsSequence}
use Rattle.definitions.specs.heard.Costs.{Costs, sequence_cost}
use Rattle.definitions.specs.answers.Blocks.{children, children_by, first_of, IsBlock, IsBound, IsIn, IsInNone, IsInOne, block_key}
use Rattle.race_words.specs.Sound.{times}
use Rattle.block_visits.specs.Facts.{Facts}
use Rattle.block_visits.specs.Visits.{limit_at, offered_by, offered_under, opened_under, AreVisits, IsBlockKey, IsVisit}
use Rattle.block_visits.specs.Apart.{AreApart}
use Rattle.block_visits.proofs.Covering.{all_then, opened_all, legal_is_sequence, minute_bound, first_is_in, visit_admitted}

-- whether two truth values are one
abbrev same_bool : Bool → Bool → Bool
same_bool true b = b
same_bool false b = not b

same_bool_is : (a b : Bool) → same_bool a b ≡ true → a ≡ b
same_bool_is true true e = refl
same_bool_is true false e = absurd cc
same_bool_is false true e = absurd cc
same_bool_is false false e = refl

is_same_bool : (a b : Bool) → a ≡ b → same_bool a b ≡ true
is_same_bool true true e = refl
is_same_bool true false e = absurd cc
is_same_bool false true e = absurd cc
is_same_bool false false e = refl

-- whether the sequence is in the block
abbrev pub is_in : Sequence → Block → Bool
is_in q b = (same_bool q.announced b.announced && (q.second == b.second)) && (nat_le b.lo q.first && nat_lt q.first b.hi)

pub is_in_true : (q : Sequence) (b : Block) → IsIn b q → is_in q b ≡ true
is_in_true q b is =
    and_from _ _ (and_from _ _ (is_same_bool q.announced b.announced is.announced) (eq-eqb q.second b.second is.second))
    (and_from _ _ (le-leb b.lo q.first is.not_before) (lt-ltb q.first b.hi is.before_end))

pub true_is_in : (q : Sequence) (b : Block) → is_in q b ≡ true → IsIn b q
true_is_in q b e =
    let halves = and_parts (same_bool q.announced b.announced && (q.second == b.second)) (nat_le b.lo q.first && nat_lt q.first b.hi) e in
    let left = and_parts (same_bool q.announced b.announced) (q.second == b.second) halves.0 in
    let right = and_parts (nat_le b.lo q.first) (nat_lt q.first b.hi) halves.1 in record {
      announced = same_bool_is q.announced b.announced left.0;
      second = eqb-true q.second b.second left.1;
      not_before = leb-true b.lo q.first right.0;
      before_end = ltb-true q.first b.hi right.1;
    }

-- 1 for true, else 0
abbrev pub one_if : Bool → ℕ
one_if t = cond t 1 0

-- 1 where the sequence is in the block, else 0
abbrev pub one_in : Sequence → Block → ℕ
one_in q b = one_if (is_in q b)

-- in how many of the blocks the sequence is
abbrev pub count_in : Sequence → List Block → ℕ
count_in q bs = sum_by (one_in q) bs

one_where : (q : Sequence) (b : Block) → IsIn b q → one_in q b ≡ 1
one_where q b is = ap one_if (is_in_true q b is)

none_where : (q : Sequence) (b : Block) → ¬ (IsIn b q) → one_in q b ≡ 0
none_where q b never = by_test (is_in q b) refl
  where
    by_test : (t : Bool) → is_in q b ≡ t → one_if t ≡ 0
    by_test true e = absurd (never (true_is_in q b e))
    by_test false e = refl

pub in_none_counts : (q : Sequence) (bs : List Block) → IsInNone bs q → count_in q bs ≡ 0
in_none_counts q [] none = refl
in_none_counts q (b ∷ bs) none = omega (arith, sum_by-cons (one_in q) b bs, none_where q b none.0, in_none_counts q bs none.1)

pub in_one_counts : (q : Sequence) (bs : List Block) → IsInOne bs q → count_in q bs ≡ 1
in_one_counts q [] one = absurd one
in_one_counts q (b ∷ bs) (inl one) = omega (arith, sum_by-cons (one_in q) b bs, one_where q b one.0, in_none_counts q bs one.1)
in_one_counts q (b ∷ bs) (inr one) = omega (arith, sum_by-cons (one_in q) b bs, none_where q b one.0, in_one_counts q bs one.1)

-- none of the blocks that lie in another has a sequence which that one doesn't have
none_outside : (q : Sequence) (b : Block) (bs : List Block) → ¬ (IsIn b q) → AllByRecursion (λ c. (r : Sequence) → IsIn c r → IsIn b r) bs → IsInNone bs q
none_outside q b [] never within = tt
none_outside q b (c ∷ cs) never within = ((λ is. never (within.0 q is)), none_outside q b cs never within.1)

-- a key that doesn't stand in a list is not found there
pub no_times : (x : ℕ) (xs : List ℕ) → (times x xs ≡ 0) ⊎ Contains xs x
no_times x [] = inl refl
no_times x (y ∷ ys) = by_test (y == x) refl (no_times x ys)
  where
    by_test : (t : Bool) → (y == x) ≡ t → (times x ys ≡ 0) ⊎ Contains ys x → (times x (y ∷ ys) ≡ 0) ⊎ Contains (y ∷ ys) x
    by_test true e rest =
        inr (subst (λ k. Contains (y ∷ ys) k) (eqb-true y x e) (Contains-append_left (y ∷ []) ys y (Contains-push [] y)))
    by_test false e rest =
        ⊎_elim (λ none. let one : one_if (y == x) ≡ 0 = ap one_if e in inl (omega (arith, sum_by-cons (λ y. one_if (y == x)) y ys, one, none)))
        (λ has. inr (Contains-append_right (y ∷ []) ys x has)) rest

module _ (costs : Costs) (window : Window) (ceiling : ℕ) (facts : Facts costs window ceiling) where
  -- how often a sequence's key is offered by a minute, where `same` tells whether it is the minute's own
  own_once : (b : Block) (n c : ℕ) (q : Sequence) → IsBlock window b → IsBound costs window b (Some n) → b.span ≡ Minute → IsSequence q
      → times (key_of c q) (block_key n b ∷ []) ≤ one_in q b
  own_once b n c q block bound span is = by_test (block_key n b == key_of c q) refl
    where
      by_test : (t : Bool) → (block_key n b == key_of c q) ≡ t → times (key_of c q) (block_key n b ∷ []) ≤ one_in q b
      by_test true e =
          let minute = minute_bound costs window ceiling facts b n span bound in
          let first : sequence_of (block_key n b) ≡ first_of b = facts.sequence n (first_of b) (legal_is_sequence costs window ceiling facts (first_of b) minute.0) in
          let same : first_of b ≡ q = sym first ∙ (ap sequence_of (eqb-true (block_key n b) (key_of c q) e) ∙ facts.sequence c q is) in
          let here : IsIn b q = subst (IsIn b) same (first_is_in costs window ceiling facts b block) in
          let one : one_if (block_key n b == key_of c q) ≡ 1 = ap one_if e in
          omega (arith, one_where q b here, one)
      by_test false e = let none : one_if (block_key n b == key_of c q) ≡ 0 = ap one_if e in omega (arith, none)

  -- what a block offers of a sequence, and how many of the blocks that it opens have it
  fits : (limit : ℕ) (b : Block) (bound : Option ℕ) (c : ℕ) (q : Sequence) → IsBlock window b → IsBound costs window b bound → IsSequence q
      → times (key_of c q) (offered_under limit b bound) + count_in q (opened_under limit b bound) ≤ one_in q b
  fits limit b None c q block bound is = omega arith
  fits limit b (Some n) c q block bound is = by_test (nat_le (block_key n b) limit)
    where
      children_count : b.span ≢ Minute → count_in q (children b) ≤ one_in q b
      children_count long =
          ⊎_elim (λ e. omega (arith, in_one_counts q (children b) (facts.one b q block long (true_is_in q b e)), one_where q b (true_is_in q b e)))
          (λ e. omega (arith, in_none_counts q (children b) (none_outside q b (children b) (λ in_it. absurd (false_true (is_in q b) e (is_in_true q b in_it))) (facts.within b block))))
          (cases_Bool (is_in q b))
        where
          false_true : (t : Bool) → t ≡ false → t ≡ true → ⊥
          false_true t f e = absurd cc

      children_fit : (s : Span) → b.span ≡ s → b.span ≢ Minute → count_in q (children_by s b) ≤ one_in q b
      children_fit s span long = subst (λ s. count_in q (children_by s b) ≤ one_in q b) span (children_count long)

      by_span : (s : Span) → b.span ≡ s → times (key_of c q) (offered_by s (block_key n b)) + count_in q (children_by s b) ≤ one_in q b
      by_span Minute span = omega (arith, own_once b n c q block bound span is)
      by_span Year span = let fit = children_fit Year span (λ m. absurd cc) in omega (arith, fit)
      by_span Day span = let fit = children_fit Day span (λ m. absurd cc) in omega (arith, fit)
      by_span Hour span = let fit = children_fit Hour span (λ m. absurd cc) in omega (arith, fit)

      by_test : (t : Bool) → times (key_of c q) (if t then offered_by b.span (block_key n b) else []) + count_in q (if t then children b else []) ≤ one_in q b
      by_test true = by_span b.span refl
      by_test false = omega arith

  pub offers_no_more : (reads : List ℕ) (bs : List Block) (keys : List ℕ) (c : ℕ) (q : Sequence) → AllByRecursion (IsBlock window) bs
      → AreVisits costs window ceiling bs reads keys → IsSequence q → times (key_of c q) keys ≤ count_in q bs
  offers_no_more [] [] keys c q blocks visits is = subst (λ ks. times (key_of c q) ks ≤ 0) (sym visits) (omega arith)
  offers_no_more [] (b ∷ bs) keys c q blocks visits is = absurd visits
  offers_no_more (seen ∷ reads) [] keys c q blocks visits is = absurd visits
  offers_no_more (seen ∷ reads) (b ∷ bs) keys c q blocks visits is =
      let own = offered_under (limit_at ceiling seen) b visits.0 in
      let opened = opened_under (limit_at ceiling seen) b visits.0 in
      let all : AllByRecursion (IsBlock window) (opened ++ bs) =
      all_then (IsBlock window) opened bs (opened_all (IsBlock window) (limit_at ceiling seen) b visits.0 (facts.blocks b blocks.0)) blocks.1 in
      let rest = offers_no_more reads (opened ++ bs) visits.1 c q all visits.4 is in
      subst (λ ks. times (key_of c q) ks ≤ count_in q (b ∷ bs)) (sym visits.3)
      (omega (
        arith,
        rest,
        fits (limit_at ceiling seen) b visits.0 c q blocks.0 visits.2 is,
        sum_by-append (λ y. one_if (y == key_of c q)) own visits.1,
        sum_by-append (one_in q) opened bs,
        sum_by-cons (one_in q) b bs,
      ))

  one_in_le : (q : Sequence) (b : Block) → one_in q b ≤ 1
  one_in_le q b = by_test (is_in q b)
    where
      by_test : (t : Bool) → one_if t ≤ 1
      by_test true = omega arith
      by_test false = omega arith

  pub visit_once : (b : Block) (reads keys : List ℕ) → IsBlock window b → IsVisit costs window ceiling b reads keys → AreApart keys
  visit_once b reads keys block visit k =
      ⊎_elim (λ none. omega (arith, none))
      (λ has.
      let of = All-contains (IsBlockKey costs window ceiling b) keys k (visit_admitted costs window ceiling facts b reads keys block visit) has in
      let q : Sequence = of.0 in
      let is : IsSequence q = legal_is_sequence costs window ceiling facts q of.1.1.0 in
      let most = offers_no_more reads (b ∷ []) keys (sequence_cost costs window q) q (block, tt) visit is in
      subst (λ x. times x keys ≤ 1) of.2 (omega (arith, most, sum_by-cons (one_in q) b [], one_in_le q b)))
      (no_times k keys)
