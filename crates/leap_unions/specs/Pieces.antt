-- What the walks allow together that begin in some minutes, where a leap second is announced.
use Rattle.std.specs.Prelude.{ℕ, ◌^◌, ◌≡◌, ◌<◌, ◌≤◌, true, bit_or, List, slice_index, Option, Some, None}
use Rattle.signal_base.specs.declared.limits.TheConstants.{MOST_SECONDS}
use Rattle.signal_base.specs.declared.station.Station.{Station}
use Rattle.signal_base.specs.declared.window.Window.{Window}
use Rattle.signal_base.specs.Mask.{has_bit}
use Rattle.definitions.specs.declared.sequence.Sequence.{Sequence}
use Rattle.definitions.specs.sequences.Walks.{set_at, IsWalkable}

-- the sequence from a minute and second on
abbrev pub announced_from : ℕ → ℕ → Sequence
announced_from second first = record { first = first; second = second; announced = true }

-- a walk begins with this second of a minute from lo up to, and without, hi
abbrev pub HasWalkFrom : Window → ℕ → ℕ → ℕ → Type 0
HasWalkFrom window second lo hi = (first : ℕ) × (lo ≤ first) × (first < hi) × IsWalkable window (announced_from second first)

-- one of these walks lets the station carry symbol x in slot k
abbrev pub CarriesFrom : Window → ℕ → ℕ → ℕ → Station → ℕ → ℕ → Type 0
CarriesFrom window second lo hi station k x =
    (first : ℕ) × (lo ≤ first) × (first < hi) × IsWalkable window (announced_from second first)
    × (has_bit (set_at station (announced_from second first) k) x ≡ true)

-- the union of the sets that these walks allow
pub record IsUnionFrom (window : Window) (second lo hi : ℕ) (station : Station) (k set : ℕ) : Type 0 where
  pub byte : set < 2 ^ 8
  pub each : (x : ℕ) → CarriesFrom window second lo hi station k x → has_bit set x ≡ true
  pub only : (x : ℕ) → has_bit set x ≡ true → CarriesFrom window second lo hi station k x

-- the unions of all slots, or none where there is no walk
abbrev pub AreUnionsFrom : Window → ℕ → Station → ℕ → ℕ → Option (List ℕ) → Type 0
AreUnionsFrom window second station lo hi None = ¬ (HasWalkFrom window second lo hi)
AreUnionsFrom window second station lo hi (Some sets) =
    HasWalkFrom window second lo hi × ((k : ℕ) → k < window.seconds → IsUnionFrom window second lo hi station k (slice_index sets k))

-- the sets of two, where there are any, slot by slot together
abbrev pub AreOfBoth : Option (List ℕ) → Option (List ℕ) → Option (List ℕ) → Type 0
AreOfBoth None b both = both ≡ b
AreOfBoth (Some x) None both = both ≡ Some x
AreOfBoth (Some x) (Some y) None = ⊥
AreOfBoth (Some x) (Some y) (Some both) = (k : ℕ) → k < MOST_SECONDS → slice_index both k ≡ bit_or (slice_index x k) (slice_index y k)
