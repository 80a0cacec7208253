-- Trials: logs that are made up by a number. What a station sends is heard by some receivers, each with a noise of its own.
use Rattle.std.specs.Prelude.{ℕ, ◌+◌, ◌-◌, ◌*◌, ◌/◌, ◌%◌, Bool, false, ◌==◌, ◌||◌, if◌then◌else◌, List, [], ◌∷◌, length, map}
use Rattle.std.specs.List.{range_with_len}
use Rattle.rand_pcg.specs.Lcg.{Lcg, increment_of, started}
use Rattle.rand_pcg.specs.Pcg.{multiplier_64, pcg32}
use Rattle.signal_base.specs.declared.station.Station.{Station}
use Rattle.signal_base.specs.declared.station.Station.TheVariants.{Dcf77, Msf, Wwvb, Jjy}
use Rattle.signal_base.specs.declared.limits.TheConstants.{MOST_RECEIVERS}
use Rattle.definitions.specs.declared.sequence.Sequence.{Sequence}
use Rattle.definitions.specs.heard.Logs.{Records}
use Rattle.trial_log.specs.declared.trial.TheConstants.{FIRST_MINUTES, FIRST_SECONDS, MINUTE_STEP, MOST_SHIFT, STATIONS, TRIAL_SECONDS}
use Rattle.trial_log.specs.Clean.{clean_log, log_text}

-- the stations take turns
abbrev pub trial_station : ℕ → Station
trial_station number =
    if number % STATIONS == 0 then Dcf77
    else if number % STATIONS == 1 then Msf
    else if number % STATIONS == 2 then Wwvb
    else Jjy

-- how many receivers hear it, 1 to 8
abbrev pub trial_receivers : ℕ → ℕ
trial_receivers number = 1 + number / STATIONS % MOST_RECEIVERS

-- what is sent
abbrev pub trial_sequence : ℕ → Sequence
trial_sequence number = record { first = number * MINUTE_STEP % FIRST_MINUTES; second = number % FIRST_SECONDS; announced = false }

-- A record stays where it is if it is the last, or stands at a whole second.
abbrev pub stays : Bool → ℕ → Bool
stays is_last time = is_last || (time % 1000 == 0)

-- A word of noise moves a record by -20 to 20 ms.
abbrev pub moved_time : ℕ → ℕ → ℕ
moved_time word time = time + word % (2 * MOST_SHIFT + 1) - MOST_SHIFT

-- The records after the first, with the noise that is left: in the order of time each that doesn't stay is moved by the
-- next word.
abbrev pub moved_inner : Lcg → Records → Records
moved_inner noise [] = []
moved_inner noise (r ∷ rs) =
    if stays (length rs == 0) r.0
    then r ∷ moved_inner noise rs
    else (moved_time (pcg32 noise).0 r.0, r.1) ∷ moved_inner (pcg32 noise).1 rs

-- a log with noise: the first record stays too
abbrev pub moved : Lcg → Records → Records
moved noise [] = []
moved noise (r ∷ rs) = r ∷ moved_inner noise rs

-- The noise of a receiver, counted from 0: the generator PCG32, its state begun with the trial's number and its stream
-- with the receiver's (O'Neill, "PCG: a family of simple fast space-efficient statistically good algorithms for random
-- number generation").
abbrev pub noise_of : ℕ → ℕ → Lcg
noise_of number receiver = started 64 multiplier_64 number (increment_of 64 receiver)

-- what a receiver hears
abbrev pub trial_records : ℕ → ℕ → Records
trial_records number receiver =
    moved (noise_of number receiver) (clean_log (trial_station number) (trial_sequence number) TRIAL_SECONDS)

-- the texts of the logs, in the order of the receivers
abbrev pub trial_logs : ℕ → List (List ℕ)
trial_logs number = map (λ receiver. log_text (trial_records number receiver)) (range_with_len 0 (trial_receivers number))
