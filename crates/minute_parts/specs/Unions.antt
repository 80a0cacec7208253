-- What some second may carry in the minutes of a range, all of them together.
use Rattle.std.specs.Prelude.{ℕ, ◌^◌, ◌≡◌, ◌<◌, ◌≤◌, Bool, true}
use Rattle.signal_base.specs.declared.station.Station.{Station}
use Rattle.signal_base.specs.Mask.{has_bit}
use Rattle.definitions.specs.time.Calendar.{minute_length}
use Rattle.definitions.specs.codes.Allowed.{allowed}

-- one of the sets from lo up to, and without, hi has the number x
abbrev pub IsInSome : (ℕ → ℕ) → ℕ → ℕ → ℕ → Type 0
IsInSome sets lo hi x = (t : ℕ) × (lo ≤ t) × (t < hi) × (has_bit (sets t) x ≡ true)

-- the set has what these sets have, and nothing else
pub record IsUnionOf (sets : ℕ → ℕ) (lo hi set : ℕ) : Type 0 where
  pub byte : set < 2 ^ 8
  pub each : (x : ℕ) → IsInSome sets lo hi x → has_bit set x ≡ true
  pub only : (x : ℕ) → has_bit set x ≡ true → IsInSome sets lo hi x

-- the union of what second s may carry at a station in the minutes from lo up to, and without, hi
abbrev pub IsUnionOver : Station → Bool → ℕ → ℕ → ℕ → ℕ → Type 0
IsUnionOver station announced lo hi s set = IsUnionOf (λ t. allowed station announced (t, s)) lo hi set

-- the minutes from lo up to, and without, hi have 60 seconds and come before an end
pub record AreRegular (announced : Bool) (lo hi end : ℕ) : Type 0 where
  pub early : hi ≤ end
  pub short : (t : ℕ) → lo ≤ t → t < hi → minute_length announced t ≡ 60
