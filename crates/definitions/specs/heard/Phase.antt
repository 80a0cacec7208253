-- The phase of a window: how far after a whole second of the receivers' clock the station's seconds begin.
use Rattle.std.specs.Prelude.{ℕ, zero, suc, ◌+◌, ◌-◌, ◌*◌, ◌%◌, Bool, true, false, ◌&&◌, nat_lt, nat_le, if◌then◌else◌, List, [], ◌∷◌, map, filter, sum_by, min}
use Rattle.signal_base.specs.declared.station.Station.{Station}
use Rattle.signal_base.specs.declared.station.Station.TheVariants.{Jjy}
use Rattle.definitions.specs.declared.level.Level.{Level}
use Rattle.definitions.specs.declared.level.Level.TheVariants.{High, Low}
use Rattle.definitions.specs.heard.Logs.{Records, time_of, level_of}
use Rattle.definitions.specs.heard.Receivers.{Receiver}

-- The carrier falls as a second begins; at JJY it rises.
abbrev pub is_start_edge : Station → Level → Level → Bool
is_start_edge Jjy Low High = true
is_start_edge Jjy before after = false
is_start_edge station High Low = true
is_start_edge station before after = false

-- the times of the records of a log that may begin a second, by each record and the one before it
abbrev pub start_edges : Station → Records → List ℕ
start_edges station [] = []
start_edges station (r ∷ []) = []
start_edges station (r ∷ s ∷ rs) =
    if is_start_edge station (level_of r) (level_of s)
    then time_of s ∷ start_edges station (s ∷ rs)
    else start_edges station (s ∷ rs)

-- the offsets of a receiver's start edges in a window of n seconds, in milliseconds from a whole second of the window
abbrev pub offsets : ℕ → ℕ → Receiver → List ℕ
offsets start n r =
    let begin = start + r.heard.tuning.delay in
    map (λ e. (e - begin) % 1000)
    (filter (λ e. nat_le begin e && nat_lt e (begin + 1000 * n)) (start_edges r.station r.heard.log))

-- how far two numbers are apart; the one of these differences that would be below 0 is 0
abbrev pub distance : ℕ → ℕ → ℕ
distance x y = (x - y) + (y - x)

-- how far two offsets are apart, on a circle of a second
abbrev pub circular_distance : ℕ → ℕ → ℕ
circular_distance x y = min (distance x y) (1000 - distance x y)

-- how far the start edges agree with a phase: each within 50 ms of it counts the milliseconds that are left
abbrev pub agreement : ℕ → ℕ → List Receiver → ℕ → ℕ
agreement start n bank f = sum_by (λ r. sum_by (λ o. 50 - circular_distance o f) (offsets start n r)) bank

-- the least of the numbers up to n at which a function is greatest
unfoldable pub first_maximum : (ℕ → ℕ) → ℕ → ℕ
first_maximum f zero = 0
first_maximum f (suc n) = let p = first_maximum f n in if nat_lt (f p) (f (suc n)) then suc n else p

-- the phase: the least from 0 to 999 with which they agree most
abbrev pub phase_of : ℕ → ℕ → List Receiver → ℕ
phase_of start n bank = first_maximum (agreement start n bank) 999
