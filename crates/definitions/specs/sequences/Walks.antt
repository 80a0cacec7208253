-- Sequences: the seconds that they walk through, and which of them are legal.
use Rattle.std.specs.Prelude.{ℕ, zero, suc, ◌+◌, ◌<◌, ◌≤◌, ◌≡◌, ◌≢◌, ◌⊎◌, Bool, true, false, nat_lt, if◌then◌else◌}
use Rattle.signal_base.specs.declared.station.Station.{Station}
use Rattle.signal_base.specs.declared.window.Window.{Window}
use Rattle.definitions.specs.declared.sequence.Sequence.{Sequence}
use Rattle.definitions.specs.time.Calendar.{century_minutes, minute_length}
use Rattle.definitions.specs.time.Places.{Place, minute_of, second_of}
use Rattle.definitions.specs.codes.Allowed.{allowed, has_station, CanBeEncoded}

-- the numbers that a sequence can have
pub record IsSequence (q : Sequence) : Type 0 where
  pub first_minute : q.first < century_minutes
  pub first_second : q.second ≤ 60

-- the place one second later
abbrev pub next_place : Bool → Place → Place
next_place announced place =
    if nat_lt (second_of place + 1) (minute_length announced (minute_of place))
    then (minute_of place, second_of place + 1)
    else (minute_of place + 1, 0)

-- the place in slot k
unfoldable pub place_at : Sequence → ℕ → Place
place_at q zero = (q.first, q.second)
place_at q (suc k) = next_place q.announced (place_at q k)

-- the set that a station may carry in slot k
abbrev pub set_at : Station → Sequence → ℕ → ℕ
set_at station q k = allowed station q.announced (place_at q k)

-- the sequence begins in the range, and every minute of its walk can be encoded
pub record IsWalkable (window : Window) (q : Sequence) : Type 0 where
  pub not_before : window.from ≤ q.first
  pub before_end : q.first < window.to
  pub second : q.second < minute_length q.announced q.first
  pub encoded : (k : ℕ) → k < window.seconds → CanBeEncoded window.stations (minute_of (place_at q k))

-- the same beginning without a leap second
abbrev pub unannounced : Sequence → Sequence
unannounced q = record { first = q.first; second = q.second; announced = false }

-- in some slot of the window a station may carry another set than without the announcement
abbrev pub ShowsLeap : Window → Sequence → Type 0
ShowsLeap window q =
    (station : Station) × (k : ℕ) × (has_station window.stations station ≡ true) × (k < window.seconds)
    × (set_at station q k ≢ set_at station (unannounced q) k)

-- Walkable; and a leap second is announced only where the window tells: it begins with that second, or the
-- sequence wouldn't be walkable without it, or some station's sets would differ. The first case is implied by
-- the second: without a leap second no minute has a second 60.
abbrev pub IsLegal : Window → Sequence → Type 0
IsLegal window q =
    IsWalkable window q
    × (q.announced ≡ true → (q.second ≡ 60) ⊎ (¬ (IsWalkable window (unannounced q)) ⊎ ShowsLeap window q))
