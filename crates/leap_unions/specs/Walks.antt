-- What a walk carries that begins shortly before a leap second may be inserted.
use Rattle.std.specs.Prelude.{ℕ, ◌≡◌, ◌≢◌, ◌+◌, ◌-◌, ◌/◌, ◌^◌, ◌<◌, ◌≤◌, false, true, List, slice_index}
use Rattle.signal_base.specs.Mask.{has_bit}
use Rattle.definitions.specs.time.Calendar.{is_leap_end}
use Rattle.definitions.specs.declared.sequence.Sequence.{Sequence}
use Rattle.definitions.specs.heard.Costs.{lies_in_one_day}
use Rattle.definitions.specs.sequences.Walks.{set_at, unannounced}
use Rattle.leap_unions.specs.declared.walk.LeapWalk.{LeapWalk}
use Rattle.leap_unions.specs.Pieces.{announced_from}
use Rattle.leap_unions.specs.Scope.{Scope}

-- the sequence from a minute and second on, without the announcement
abbrev pub unannounced_from : ℕ → ℕ → Sequence
unannounced_from second first = unannounced (announced_from second first)

-- in some slot the station may carry another set than without the announcement
abbrev pub ShowsIn : Scope → ℕ → ℕ → Type 0
ShowsIn scope second first =
    (k : ℕ) × (k < scope.seconds) × (set_at scope.station (announced_from second first) k ≢ set_at scope.station (unannounced_from second first) k)

-- a set for each slot, whether the walk is known to go on to the next UTC day, and whether it is known to end before the leap second,
-- so that at most its last minute is one of 61 seconds
pub record IsLeapWalk (scope : Scope) (second first : ℕ) (walk : LeapWalk) : Type 0 where
  pub sets : (k : ℕ) → k < scope.seconds → slice_index walk.sets k ≡ set_at scope.station (announced_from second first) k
  pub next_day : walk.next_day ≡ true → lies_in_one_day scope.seconds (announced_from second first) ≡ false
  pub early : walk.early ≡ true → (t : ℕ) → first ≤ t → t < first + (second + scope.seconds - 1) / 60 → is_leap_end t ≡ false

-- no walk from a second that begins in the minutes from lo up to, and without, hi carries another symbol in a slot than the set there has
pub record AreTogether (scope : Scope) (second lo hi : ℕ) (sets : List ℕ) : Type 0 where
  pub byte : (k : ℕ) → k < scope.seconds → slice_index sets k < 2 ^ 8
  pub each : (first k x : ℕ) → lo ≤ first → first < hi → k < scope.seconds
      → has_bit (set_at scope.station (announced_from second first) k) x ≡ true → has_bit (slice_index sets k) x ≡ true
