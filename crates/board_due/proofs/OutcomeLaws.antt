-- A text of queries has one outcome: it is that of one list, or it is refused for one line.
use Rattle.std.proofs.Common.{◌≡◌, ℕ, zero, suc, ◌+◌, ◌<◌, ◌≤◌, ◌⊎◌, inl, inr, List, [], ◌∷◌, ◌++◌, All, length, refl, sym, ap, ◌∙◌, arith, append_assoc, append-nil}
use Rattle.std.proofs.lemmas.Bool.{cases_lt}
use Rattle.std.proofs.lemmas.List.{length_push}
use Rattle.std.proofs.lemmas.List.Elements.{All-append, All-cons, All-head, All-nil, All-tail}
use Rattle.definitions.proofs.ExistLaws.{Decided}
use Rattle.board_due.specs.Queries.{AreQueries, BeginsWithQuery, IsQuery, IsRefused, IsTextOf, IsToldOf, QueriesTold, queries_text, query_line}
use Rattle.board_due.specs.Queries.QueriesTold.{BadLine, Read, TooLarge}
use Rattle.board_due.specs.declared.queries.TheConstants.{MOST_QUERIES, QUERIES_LIMIT}
use Rattle.board_due.proofs.QueryLaws.{decide_query, less_left, nothing_begins, query_once, read_on}

-- Of two readings of one text: they are the same, or behind the shorter one the text goes on with a query.
abbrev GoesOn : List ℕ → List ℕ → List ℕ → Type 0
GoesOn rest xs ys = BeginsWithQuery rest × (length xs < length ys)

abbrev Meets : List ℕ → List ℕ → List ℕ → List ℕ → Type 0
Meets xs r ys s = ((xs ≡ ys) × (r ≡ s)) ⊎ (GoesOn r xs ys ⊎ GoesOn s ys xs)

both : (x y : ℕ) (xs ys : List ℕ) → x ≡ y → xs ≡ ys → x ∷ xs ≡ y ∷ ys
both x y xs ys e f = cc

readings_meet : (xs ys r s : List ℕ) → All IsQuery xs → All IsQuery ys → queries_text xs ++ r ≡ queries_text ys ++ s → Meets xs r ys s
readings_meet [] [] r s a b e = inl (refl, e)
readings_meet [] (y ∷ ys) r s a b e =
    inr (inl ((y, queries_text ys ++ s, All-head IsQuery y ys b, e ∙ append_assoc (query_line y) (queries_text ys) s), omega arith))
readings_meet (x ∷ xs) [] r s a b e =
    inr (inr ((x, queries_text xs ++ r, All-head IsQuery x xs a, sym e ∙ append_assoc (query_line x) (queries_text xs) r), omega arith))
readings_meet (x ∷ xs) (y ∷ ys) r s a b e =
    let same = query_once x y (queries_text xs ++ r) (queries_text ys ++ s) (All-head IsQuery x xs a) (All-head IsQuery y ys b)
    (sym (append_assoc (query_line x) (queries_text xs) r) ∙ (e ∙ append_assoc (query_line y) (queries_text ys) s)) in
    more same.0 (readings_meet xs ys r s (All-tail IsQuery x xs a) (All-tail IsQuery y ys b) same.1)
  where
    more : x ≡ y → Meets xs r ys s → Meets (x ∷ xs) r (y ∷ ys) s
    more same (inl h) = inl (both x y xs ys same h.0, h.1)
    more same (inr (inl h)) = inr (inl (h.0, omega (arith, h.1)))
    more same (inr (inr h)) = inr (inr (h.0, omega (arith, h.1)))

-- a bad line doesn't go on
abbrev IsBad : List ℕ → List ℕ → Type 0
IsBad queries rest = (¬ (BeginsWithQuery rest)) ⊎ (length queries ≡ MOST_QUERIES)

stuck : (xs ys rest : List ℕ) → AreQueries ys → IsBad xs rest → GoesOn rest xs ys → ⊥
stuck xs ys rest good (inl none) goes = none goes.0
stuck xs ys rest good (inr full) goes = omega (arith, full, good.1, goes.1)

whole : (text queries : List ℕ) → text ≡ queries_text queries → text ≡ queries_text queries ++ []
whole text queries is = is ∙ sym (append-nil (queries_text queries))

ends : (xs ys : List ℕ) → GoesOn [] xs ys → ⊥
ends xs ys goes = nothing_begins [] refl goes.0

module _ (text : List ℕ) where
  pub one_list : (xs ys : List ℕ) → IsTextOf xs text → IsTextOf ys text → xs ≡ ys
  one_list xs ys h k = go (readings_meet xs ys [] [] h.0.0 k.0.0 (sym (whole text xs h.1) ∙ whole text ys k.1))
    where
      go : Meets xs [] ys [] → xs ≡ ys
      go (inl same) = same.0
      go (inr (inl goes)) = absurd (ends xs ys goes)
      go (inr (inr goes)) = absurd (ends ys xs goes)

  pub not_both : (xs : List ℕ) (number : ℕ) → IsTextOf xs text → IsRefused text number → ⊥
  not_both xs number h k = go (readings_meet xs k.queries [] k.rest h.0.0 k.good.0 (sym (whole text xs h.1) ∙ k.read))
    where
      go : Meets xs [] k.queries k.rest → ⊥
      go (inl same) = omega (arith, k.more, ap (λ (l : List ℕ). length l) same.1)
      go (inr (inl goes)) = ends xs k.queries goes
      go (inr (inr goes)) = stuck k.queries xs k.rest h.0 k.bad goes

  pub one_line : (m n : ℕ) → IsRefused text m → IsRefused text n → m ≡ n
  one_line m n h k = go (readings_meet h.queries k.queries h.rest k.rest h.good.0 k.good.0 (sym h.read ∙ k.read))
    where
      go : Meets h.queries h.rest k.queries k.rest → m ≡ n
      go (inl same) = omega (arith, h.is_next, k.is_next, ap (λ (l : List ℕ). length l) same.0)
      go (inr (inl goes)) = absurd (stuck h.queries k.queries h.rest k.good h.bad goes)
      go (inr (inr goes)) = absurd (stuck k.queries h.queries k.rest h.good k.bad goes)

  -- and there is one
  abbrev pub HasOutcome : Type 0
  HasOutcome = ((queries : List ℕ) × IsTextOf queries text) ⊎ ((number : ℕ) × IsRefused text number)

  pub refused_at : (queries rest : List ℕ) → AreQueries queries → text ≡ queries_text queries ++ rest → 0 < length rest
      → (¬ (BeginsWithQuery rest)) ⊎ (length queries ≡ MOST_QUERIES) → IsRefused text (length queries + 1)
  refused_at queries rest good read more bad = record {
    queries = queries;
    rest = rest;
    good = good;
    read = read;
    more = more;
    bad = bad;
    is_next = refl;
  }

  pub good_more : (queries : List ℕ) (ms : ℕ) → AreQueries queries → length queries < MOST_QUERIES → IsQuery ms → AreQueries (queries ++ ms ∷ [])
  good_more queries ms good room is =
      (All-append IsQuery queries (ms ∷ []) good.0 (All-cons IsQuery ms [] is (All-nil IsQuery)), omega (arith, room, length_push queries ms))

  -- behind some queries the text goes on with one more, or it is refused
  abbrev Next : List ℕ → List ℕ → Type 0
  Next queries rest = (length queries < MOST_QUERIES) × BeginsWithQuery rest

  next_or_refused : (queries rest : List ℕ) → 0 < length rest → AreQueries queries → text ≡ queries_text queries ++ rest
      → IsRefused text (length queries + 1) ⊎ Next queries rest
  next_or_refused queries rest some good read = go (cases_lt (length queries) MOST_QUERIES) (decide_query rest)
    where
      go : (length queries < MOST_QUERIES) ⊎ (MOST_QUERIES ≤ length queries) → Decided (BeginsWithQuery rest) → IsRefused text (length queries + 1) ⊎ Next queries rest
      go room (inr none) = inl (refused_at queries rest good read some (inl none))
      go (inr full) (inl begins) = inl (refused_at queries rest good read some (inr (omega (arith, full, good.1))))
      go (inl room) (inl begins) = inr (room, begins)

  outcome_from : (fuel : ℕ) (queries rest : List ℕ) → length rest ≤ fuel → AreQueries queries → text ≡ queries_text queries ++ rest → HasOutcome
  outcome_from fuel queries [] fits good read = inl (queries, (good, read ∙ append-nil (queries_text queries)))
  outcome_from zero queries (b ∷ rest) fits good read = absurd (omega (arith, fits))
  outcome_from (suc fuel) queries (b ∷ rest) fits good read =
      elim (next_or_refused queries (b ∷ rest) (omega arith) good read) [
        | inl refused ↦ inr (length queries + 1, refused)
        | inr next ↦ (
            let begins = next.1 in
            let ms = begins.0 in
            outcome_from fuel (queries ++ ms ∷ []) begins.1 (omega (arith, fits, less_left ms (b ∷ rest) begins.1 begins.2 begins.3))
            (good_more queries ms good next.0 begins.2) (read_on text queries (b ∷ rest) ms begins.1 read begins.3))
      ]

  pub has_outcome : HasOutcome
  has_outcome = outcome_from (length text) [] text (omega arith) (All-nil IsQuery, omega arith) refl

  -- so one thing is told of it, the size included
  pub something_told : (told : QueriesTold) × IsToldOf text told
  something_told = go (cases_lt QUERIES_LIMIT (length text)) has_outcome
    where
      go : (QUERIES_LIMIT < length text) ⊎ (length text ≤ QUERIES_LIMIT) → HasOutcome → (told : QueriesTold) × IsToldOf text told
      go (inl large) o = (TooLarge, large)
      go (inr fits) (inl h) = (Read h.0, (fits, h.1))
      go (inr fits) (inr h) = (BadLine h.0, (fits, h.1))

  pub told_once : (a b : QueriesTold) → IsToldOf text a → IsToldOf text b → a ≡ b
  told_once TooLarge TooLarge h k = refl
  told_once TooLarge (BadLine n) h k = absurd (omega (arith, h, k.0))
  told_once TooLarge (Read ys) h k = absurd (omega (arith, h, k.0))
  told_once (BadLine m) TooLarge h k = absurd (omega (arith, h.0, k))
  told_once (BadLine m) (BadLine n) h k = ap BadLine (one_line m n h.1 k.1)
  told_once (BadLine m) (Read ys) h k = absurd (not_both ys m k.1 h.1)
  told_once (Read xs) TooLarge h k = absurd (omega (arith, h.0, k))
  told_once (Read xs) (BadLine n) h k = absurd (not_both xs n h.1 k.1)
  told_once (Read xs) (Read ys) h k = ap Read (one_list xs ys h.1 k.1)
