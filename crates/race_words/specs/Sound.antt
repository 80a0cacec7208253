-- When a race is sound: six facts that every event keeps.
use Rattle.std.specs.Prelude.{◌≡◌, ℕ, ◌≤◌, ◌==◌, nat_lt, if◌then◌else◌, min, List, [], ◌∷◌, ◌++◌, map, length, sum_by, count_by}
use mathlib.Core.Option.{some}
use lib.ListN.{get_elem?}
use Rattle.race_words.specs.declared.view.View.{View}
use Rattle.race_words.specs.Keys.{no_key, two_least}
use Rattle.race_words.specs.Views.{blank_view}
use Rattle.race_words.specs.Events.{RaceState, most_drawn}

-- how often a number stands in a list
abbrev pub times : ℕ → List ℕ → ℕ
times x xs = count_by (λ y. y == x) xs

-- 1 for a number below n, and else 0
abbrev pub once_below : ℕ → ℕ → ℕ
once_below x n = if nat_lt x n then 1 else 0

-- the list has all numbers below its length, each once
abbrev pub HasEachOnce : List ℕ → Type 0
HasEachOnce xs = (x : ℕ) → times x xs ≡ once_below x (length xs)

-- the fact holds of each view
abbrev pub EachView : RaceState → (View → Type 0) → Type 0
EachView r P = (seat : ℕ) (v : View) → get_elem? r.views seat ≡ some v → P v

-- the keys that were offered through all these views
abbrev pub all_offered : List View → List ℕ
all_offered [] = []
all_offered (v ∷ vs) = v.offered ++ all_offered vs

-- the keys that the race keeps: in its words, or carried by a view
abbrev pub all_kept : RaceState → List ℕ
all_kept r = r.least ∷ r.second ∷ map (λ (v : View). v.carried) r.views

-- the shares add up to the workers, and a view with no share is blank
abbrev pub SharesAddUp : ℕ → RaceState → Type 0
SharesAddUp workers r = (sum_by (λ (v : View). v.share) r.views ≡ workers) × EachView r (λ v. v.share ≡ 0 → v ≡ blank_view)

-- the views together drew each number below `drawn` once and no other, and so as many as `drawn` says
abbrev pub DrawsEachOnce : RaceState → Type 0
DrawsEachOnce r =
    ((x : ℕ) → sum_by (λ (v : View). times x v.drawn) r.views ≡ once_below x r.drawn)
    × (sum_by (λ (v : View). length v.drawn) r.views ≡ r.drawn)

-- the least word is not above the second, which is not above no key, and not above what any view carries or knows as `low`
abbrev pub IsOrdered : RaceState → Type 0
IsOrdered r = (r.least ≤ r.second) × (r.second ≤ no_key) × EachView r (λ v. (r.least ≤ v.carried) × (r.least ≤ v.low))

-- the two least of all offered keys are the two least of those that are kept
abbrev pub KeepsTwoLeast : RaceState → Type 0
KeepsTwoLeast r = two_least (all_offered r.views) ≡ two_least (all_kept r)

-- the second word, or the key that a view is carrying to it, is not above the view's floor
abbrev pub IsBelowFloors : RaceState → Type 0
IsBelowFloors r = EachView r (λ v. min r.second v.carried ≤ v.floor)

-- no view drew more than its share allows
abbrev pub IsWithinShares : RaceState → Type 0
IsWithinShares r = EachView r (λ v. length v.drawn ≤ most_drawn v.share)

-- what holds of a race between any two events
pub record IsSound (workers : ℕ) (r : RaceState) : Type 0 where
  pub shares : SharesAddUp workers r
  pub drawn : DrawsEachOnce r
  pub ordered : IsOrdered r
  pub least_two : KeepsTwoLeast r
  pub floors : IsBelowFloors r
  pub counts : IsWithinShares r
