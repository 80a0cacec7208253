-- What a trial sends can be sent, and its logs are made one after the other.
use Rattle.std.proofs.Common.{◌≡◌, ℕ, ◌+◌, ◌/◌, ◌<◌, Bool, true, false, ◌&&◌, cond, List, [], ◌∷◌, ◌++◌, map, refl, ap, arith, zero-add}
use Rattle.std.specs.List.{range_with_len}
use Rattle.std.proofs.lemmas.List.{map-append}
use Rattle.std.proofs.lemmas.List.FromFn.{map-range_with_len_more}
use Rattle.signal_base.specs.declared.station.Station.{Station}
use Rattle.signal_base.specs.declared.station.Station.TheVariants.{Dcf77, Msf, Wwvb, Jjy}
use Rattle.signal_base.specs.declared.station.Stations.{Stations}
use Rattle.definitions.specs.declared.sequence.Sequence.{Sequence}
use Rattle.definitions.specs.time.Calendar.{is_leap_end}
use Rattle.definitions.specs.codes.Allowed.{has_station}
use Rattle.definitions.specs.sequences.Walks.{place_at}
use Rattle.definitions.proofs.MinuteLaws.{early}
use Rattle.definitions.proofs.PlaceLaws.{place_at-plain}
use Rattle.trial_log.specs.declared.trial.TheConstants.{FIRST_MINUTES, TRIAL_SECONDS}
use Rattle.trial_log.specs.Clean.{CanBeSent}

-- the stations together
abbrev all : Stations
all = record { mask = 15 }

is_one_of_all : (station : Station) → has_station all station ≡ true
is_one_of_all Dcf77 = refl
is_one_of_all Msf = refl
is_one_of_all Wwvb = refl
is_one_of_all Jjy = refl

-- the minute of a walk that isn't announced
minute_at : (q : Sequence) (k : ℕ) → q.announced ≡ false → q.second < 60 → (place_at q k).0 ≡ q.first + (q.second + k) / 60
minute_at q k plain small = ap (λ (p : ℕ × ℕ). p.0) (place_at-plain q k plain small)

enough : (b : Bool) (s : ℕ) → s < 60 → s < cond b 61 60
enough true s lt = omega arith
enough false s lt = omega arith

pub can_be_sent : (station : Station) (q : Sequence) → q.announced ≡ false → q.second < 60 → q.first < FIRST_MINUTES → CanBeSent station q TRIAL_SECONDS
can_be_sent station q plain small early_first = record {
  sequence = record { first_minute = omega arith; first_second = omega arith };
  second = enough (q.announced && is_leap_end q.first) q.second small;
  century = λ k lt. omega (arith, minute_at q k plain small);
  encoded = λ k lt. (early all (place_at q k).0 (omega (arith, minute_at q k plain small))).1 station (is_one_of_all station);
}

-- one more log
pub next_log : {X : Type 0} → (bytes : X → List ℕ) (log : ℕ → List ℕ) (n : ℕ) (before after : List X) (x : X)
    → map bytes before ≡ map log (range_with_len 0 n) → after ≡ before ++ x ∷ [] → bytes x ≡ log n → map bytes after ≡ map log (range_with_len 0 (n + 1))
next_log bytes log n before after x so_far more is =
    rw (more, map-append bytes before (x ∷ []), so_far, is, map-range_with_len_more log 0 n n (zero-add n))
