-- Walks of 60 seconds that stay in one minute.
use Rattle.std.proofs.Common.{◌≡◌, ℕ, ◌+◌, ◌<◌, ◌≤◌, Bool, true, false, if◌then◌else◌, ap, ◌∙◌, arith, zero-add}
use Rattle.signal_base.specs.declared.station.Station.{Station}
use Rattle.signal_base.specs.declared.station.Station.TheVariants.{Dcf77, Msf, Wwvb, Jjy}
use Rattle.signal_base.specs.declared.station.Stations.{Stations}
use Rattle.definitions.specs.declared.sequence.Sequence.{Sequence}
use Rattle.definitions.specs.declared.zone.Zone.TheVariants.{CentralEurope, Uk}
use Rattle.definitions.specs.time.Calendar.{century_minutes, minute_length}
use Rattle.definitions.specs.time.Summer.{is_eu_summer}
use Rattle.definitions.specs.time.Zones.{zone_shift}
use Rattle.definitions.specs.codes.Allowed.{allowed, encoded_minute, encoded_year, CanBeEncoded}
use Rattle.definitions.specs.sequences.Walks.{place_at, set_at, IsWalkable}
use Rattle.definitions.specs.examples.Sequences.{window_of}
use Rattle.definitions.proofs.PlaceLaws.{stays_in_minute}
use Rattle.definitions.proofs.SpanLaws.{in_year}

-- each station encodes a year of the century, but for its last nine hours
early_year : (station : Station) (t : ℕ) → t + 540 < century_minutes → encoded_year station t ≤ 2099
early_year Dcf77 t early = in_year (encoded_minute Dcf77 t + zone_shift CentralEurope (encoded_minute Dcf77 t)) (shifted (is_eu_summer (t + 1)))
  where
    shifted : (summer : Bool) → t + 1 + (if summer then 120 else 60) < century_minutes
    shifted true = omega arith
    shifted false = omega arith
early_year Msf t early = in_year (encoded_minute Msf t + zone_shift Uk (encoded_minute Msf t)) (shifted (is_eu_summer (t + 1)))
  where
    shifted : (summer : Bool) → t + 1 + (if summer then 60 else 0) < century_minutes
    shifted true = omega arith
    shifted false = omega arith
early_year Wwvb t early = in_year (t + 0) (omega arith)
early_year Jjy t early = in_year (t + 540) (omega arith)

pub early : (stations : Stations) (t : ℕ) → t + 540 < century_minutes → CanBeEncoded stations t
early stations t lt = (omega (arith, lt), λ station has. early_year station t lt)

-- the sequence from the first second of a minute on
abbrev pub from_minute : Bool → ℕ → Sequence
from_minute announced t = record { first = t; second = 0; announced = announced }

module _ (announced : Bool) (t : ℕ) (short : minute_length announced t ≡ 60) where
  pub place : (k : ℕ) → k < 60 → place_at (from_minute announced t) k ≡ (t, k)
  place k lt = stays_in_minute (from_minute announced t) k (omega (arith, short, lt)) ∙ ap (λ s. (t, s)) (zero-add k)

  pub set : (station : Station) (k : ℕ) → k < 60 → set_at station (from_minute announced t) k ≡ allowed station announced (t, k)
  set station k lt = ap (allowed station announced) (place k lt)

  pub walkable : (mask lo hi : ℕ) → lo ≤ t → t < hi → CanBeEncoded (window_of mask lo hi).stations t → IsWalkable (window_of mask lo hi) (from_minute announced t)
  walkable mask lo hi from to encoded = record {
    not_before = from;
    before_end = to;
    second = omega (arith, short);
    encoded = λ k lt. let there = ap (λ (p : ℕ × ℕ). p.0) (place k lt) in
        (omega (arith, there, encoded.0), λ station has. omega (arith, ap (encoded_year station) there, encoded.1 station has));
  }
