-- The level at a millisecond, from its place among the records, and the low milliseconds of a stretch.
use Rattle.std.proofs.Common.{◌≡◌, ℕ, zero, suc, ◌+◌, ◌-◌, ◌<◌, ◌≤◌, ◌⊎◌, inl, inr, Bool, true, false, List, [], ◌∷◌, length, take, get_or, nat_lt, nat_le, Option, Some, None, refl, ap, ◌∙◌, arith}
use Rattle.std.specs.List.{filter, list_any}
use Rattle.std.specs.Option.{ForSome}
use Rattle.std.specs.List.Sorted.{IsNonDecreasingBy}
use Rattle.std.proofs.Math.Nat.{add-suc, add-zero}
use Rattle.std.proofs.lemmas.Bool.{lt-ltb, le-ltb, le-leb, lt-leb, cases_lt, cond-true, cond-false}
use Rattle.std.proofs.lemmas.List.{get_or_default}
use Rattle.std.proofs.lemmas.List.Recursion.{or_at, or_from_places}
use Rattle.definitions.specs.declared.level.Level.{Level}
use Rattle.definitions.specs.declared.level.Level.TheVariants.{High, Low, Unknown}
use Rattle.definitions.specs.heard.Logs.{Records, last_level, level_at, count_level, low_count}
use Rattle.definitions.proofs.CostLaws.{IsAtMost}
use Rattle.formats.specs.LogOrder.{IsRising}
use Rattle.pulse_log.specs.Place.{StandsAfter, count_levels, level_after}

-- what a test keeps that passes just the first n elements
filter-prefix : {X : Type 0} (p : X → Bool) (xs : List X) (n : ℕ) → ((k : ℕ) (d : X) → k < n → p (get_or xs k d) ≡ true) → ((k : ℕ) (d : X) → n ≤ k → k < length xs → p (get_or xs k d) ≡ false) → filter p xs ≡ take n xs
filter-prefix p [] zero passes fails = refl
filter-prefix p [] (suc n) passes fails = refl
filter-prefix p (x ∷ xs) zero passes fails =
    cond-false (p x) (x ∷ filter p xs) (filter p xs) (fails 0 x (omega arith) (omega arith))
    ∙ filter-prefix p xs zero (λ k d h. absurd (omega arith)) (λ k d h l. fails (suc k) d (omega arith) (omega arith))
filter-prefix p (x ∷ xs) (suc n) passes fails =
    cond-true (p x) (x ∷ filter p xs) (filter p xs) (passes 0 x (omega arith))
    ∙ ap (λ rest. x ∷ rest) (filter-prefix p xs n (λ k d h. passes (suc k) d (omega arith)) (λ k d h l. fails (suc k) d (omega arith) (omega arith)))

pub level_at-place : (log : Records) (ms n : ℕ) → StandsAfter log ms n → level_at log ms ≡ level_after log n
level_at-place log ms n place = go (cases_lt n (length log))
  where
    start : ℕ × Level
    start = (0, Unknown)

    kept : filter (λ r. nat_le r.0 ms) log ≡ take n log
    kept = filter-prefix (λ r. nat_le r.0 ms) log n (λ k d h. le-leb (get_or log k d).0 ms (place.before k d h)) (λ k d h l. lt-leb (get_or log k d).0 ms (place.after k d h l))

    go : (n < length log) ⊎ (length log ≤ n) → level_at log ms ≡ level_after log n
    go (inl h) =
        let later : list_any (λ r. nat_lt ms r.0) log ≡ true = or_at (list_any (λ r. nat_lt ms r.0)) (λ r. nat_lt ms r.0) refl (λ _ _. refl) log n start h (lt-ltb ms (get_or log n start).0 (place.after n start (omega arith) h)) in
        let within : nat_lt n (length log) ≡ true = lt-ltb n (length log) h in
        rw (later, within, kept)
    go (inr h) =
        let none : list_any (λ r. nat_lt ms r.0) log ≡ false = or_from_places (list_any (λ r. nat_lt ms r.0)) (λ r. nat_lt ms r.0) refl (λ _ _. refl) log start (λ k l. le-ltb ms (get_or log k start).0 (place.before k start (omega arith))) in
        let past : nat_lt n (length log) ≡ false = le-ltb n (length log) h in
        rw (none, past)

pub last_level-take : (log : Records) (k : ℕ) (d : ℕ × Level) → k < length log → last_level (take (suc k) log) ≡ (get_or log k d).1
last_level-take [] k d h = absurd (omega arith)
last_level-take (r ∷ []) zero d h = refl
last_level-take (r ∷ s ∷ rs) zero d h = refl
last_level-take (r ∷ []) (suc k) d h = absurd (omega arith)
last_level-take (r ∷ s ∷ rs) (suc k) d h = last_level-take (s ∷ rs) k d (omega arith)

pub level_after-known : (log : Records) (n : ℕ) (d : ℕ × Level) → 0 < n → n < length log → level_after log n ≡ (get_or log (n - 1) d).1
level_after-known log n d some h =
    let within : nat_lt n (length log) ≡ true = lt-ltb n (length log) h in
    let same : n ≡ suc (n - 1) = omega arith in
    rw within (ap (λ m. last_level (take m log)) same ∙ last_level-take log (n - 1) d (omega arith))

pub level_after-past : (log : Records) (n : ℕ) → length log ≤ n → level_after log n ≡ Unknown
level_after-past log n h = let past : nat_lt n (length log) ≡ false = le-ltb n (length log) h in rw past

-- the records after a place are not before the next one
rises_from : (log : Records) (ms n k : ℕ) (d e : ℕ × Level) → IsRising log → n < length log → ms < (get_or log n d).0 → n ≤ k → k < length log → ms < (get_or log k e).0
rises_from log ms n k d e rising h low l m = go (cases_lt n k)
  where
    same : (get_or log n d).0 ≡ (get_or log n e).0
    same = ap (λ (r : ℕ × Level). r.0) (get_or_default log n d e h)

    go : (n < k) ⊎ (k ≤ n) → ms < (get_or log k e).0
    go (inl above) = omega (arith, same, rising n k e above m)
    go (inr below) =
        let at : n ≡ k = omega arith in
        omega (arith, same, ap (λ i. (get_or log i e).0) at)

-- until the next record the place stays, and after the last one for ever
pub StandsAfter-stays : (log : Records) (at ms n : ℕ) → IsRising log → StandsAfter log at n → at ≤ ms → ((d : ℕ × Level) → n < length log → ms < (get_or log n d).0) → StandsAfter log ms n
StandsAfter-stays log at ms n rising place low high = record {
  within = place.within;
  before = λ k e l. omega (arith, place.before k e l);
  after = λ k e l m. let h : n < length log = omega arith in rises_from log ms n k e e rising h (high e h) l m;
}

-- at the next record it is one more
pub StandsAfter-next : (log : Records) (at n : ℕ) (d : ℕ × Level) → IsRising log → StandsAfter log at n → n < length log → StandsAfter log (get_or log n d).0 (n + 1)
StandsAfter-next log at n d rising place h = record {
  within = omega arith;
  before = λ k e l. go k e l (cases_lt k n);
  after = λ k e l m. omega (arith, ap (λ (r : ℕ × Level). r.0) (get_or_default log n d e h), rising n k e (omega arith) m);
}
  where
    go : (k : ℕ) (e : ℕ × Level) → k < n + 1 → (k < n) ⊎ (n ≤ k) → (get_or log k e).0 ≤ (get_or log n d).0
    go k e l (inl below) = omega (arith, place.before k e below, place.after n d (omega arith) h)
    go k e l (inr above) =
        let at : k ≡ n = omega arith in
        omega (arith, ap (λ i. (get_or log i e).0) at, ap (λ (r : ℕ × Level). r.0) (get_or_default log n d e h))

low_count-next : (log : Records) (from n : ℕ) → low_count log from (suc n) ≡ count_level (level_at log (from + n)) (low_count log from n)
unfolding low_count
low_count-next log from n = refl

-- more milliseconds of one level
low_count-stretch : (log : Records) (from n k : ℕ) (level : Level) → ((j : ℕ) → j < k → level_at log (from + (n + j)) ≡ level) → low_count log from (n + k) ≡ count_levels level k (low_count log from n)
unfolding count_levels
low_count-stretch log from n zero level same = rw add-zero refl
low_count-stretch log from n (suc k) level same =
    let before = low_count-stretch log from n k level (λ j h. same j (omega arith)) in
    let here = same k (omega arith) in
    rw add-suc (low_count-next log from (n + k) ∙ rw (here, before) refl)

-- from a place to the next record, and after the last one to any millisecond, the level stays
pub low_count-until : (log : Records) (from at until n : ℕ) → IsRising log → StandsAfter log at n → from ≤ at → at ≤ until → ((d : ℕ × Level) → n < length log → until ≤ (get_or log n d).0)
    → low_count log from (until - from) ≡ count_levels (level_after log n) (until - at) (low_count log from (at - from))
low_count-until log from at until n rising place low mid high =
    let same : until - from ≡ (at - from) + (until - at) = omega arith in
    rw same (low_count-stretch log from (at - from) (until - at) (level_after log n)
    (λ j h. level_at-place log (from + ((at - from) + j)) n (StandsAfter-stays log at (from + ((at - from) + j)) n rising place (omega arith) (λ d l. omega (arith, high d l)))))

pub count_levels-zero : (level : Level) (low : Option ℕ) → count_levels level 0 low ≡ low
unfolding count_levels
count_levels-zero level low = refl

pub count_levels-none : (level : Level) (n : ℕ) → count_levels level n None ≡ None
unfolding count_levels
count_levels-none level zero = refl
count_levels-none level (suc n) = rw (count_levels-none level n) (none level)
  where
    none : (l : Level) → count_level l None ≡ None
    none High = refl
    none Low = refl
    none Unknown = refl

pub count_levels-low : (n c : ℕ) → count_levels Low n (Some c) ≡ Some (c + n)
unfolding count_levels
count_levels-low zero c = rw add-zero refl
count_levels-low (suc n) c = let one : (c + n) + 1 ≡ c + suc n = omega arith in rw (count_levels-low n c) (ap Some one)

pub count_levels-high : (n : ℕ) (low : Option ℕ) → count_levels High n low ≡ low
unfolding count_levels
count_levels-high zero low = refl
count_levels-high (suc n) None = rw (count_levels-high n None) refl
count_levels-high (suc n) (Some c) = rw (count_levels-high n (Some c)) refl

pub count_levels-unknown : (n : ℕ) (low : Option ℕ) → 0 < n → count_levels Unknown n low ≡ None
unfolding count_levels
count_levels-unknown zero low h = absurd (omega arith)
count_levels-unknown (suc n) low h = unknown (count_levels Unknown n low)
  where
    unknown : (o : Option ℕ) → count_level Unknown o ≡ None
    unknown None = refl
    unknown (Some c) = refl

pub IsNonDecreasingBy-rising : (log : Records) → IsRising log → IsNonDecreasingBy (λ (r : ℕ × Level). r.0) log
IsNonDecreasingBy-rising log rising = λ i j d h l. go i j d l (cases_lt i j) h
  where
    go : (i j : ℕ) (d : ℕ × Level) → j < length log → (i < j) ⊎ (j ≤ i) → i ≤ j → (get_or log i d).0 ≤ (get_or log j d).0
    go i j d l (inl below) h = omega (arith, rising i j d below l)
    go i j d l (inr above) h =
        let same : i ≡ j = omega arith in
        omega (arith, ap (λ k. (get_or log k d).0) same)

pub low_count-start : (log : Records) (from : ℕ) → low_count log from (from - from) ≡ Some 0
unfolding low_count
low_count-start log from = let same : from - from ≡ 0 = omega arith in rw same

-- a count is small enough for so many more milliseconds
pub some_at_most : (n k : ℕ) (o : Option ℕ) → IsAtMost n o → n ≤ k → ForSome o (λ c. c ≤ k)
some_at_most n k None h more = λ c e. (cc)
some_at_most n k (Some b) h more = λ c e. let same : b ≡ c = cc in omega arith
