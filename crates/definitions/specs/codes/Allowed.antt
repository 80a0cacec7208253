-- What a second of a minute may carry.
use Rattle.std.specs.Prelude.{ℕ, ◌+◌, ◌*◌, ◌/◌, ◌%◌, ◌≡◌, ◌⊎◌, ◌<◌, ◌≤◌, Bool, true, ◌&&◌, nat_lt, if◌then◌else◌, List, [], ◌∷◌, map, filter, Option, Some, None}
use Rattle.std.specs.List.{range_with_len}
use Rattle.signal_base.specs.declared.station.Station.{Station}
use Rattle.signal_base.specs.declared.station.Station.TheVariants.{Dcf77, Msf, Wwvb, Jjy}
use Rattle.signal_base.specs.declared.station.Stations.{Stations}
use Rattle.signal_base.specs.Mask.{has_bit}
use Rattle.signal_base.specs.Number.{number_of}
use Rattle.signal_base.specs.Waveform.{symbol_count}
use Rattle.definitions.specs.codes.Vocabulary.{free, only, unscored}
use Rattle.definitions.specs.declared.dcf77.DcfFacts.{DcfFacts}
use Rattle.definitions.specs.declared.msf.MsfFacts.{MsfFacts}
use Rattle.definitions.specs.declared.wwvb.WwvbFacts.{WwvbFacts}
use Rattle.definitions.specs.declared.jjy.JjyFacts.{JjyFacts}
use Rattle.definitions.specs.declared.fields.Fields.{Fields}
use Rattle.definitions.specs.declared.zone.Zone.{Zone}
use Rattle.definitions.specs.declared.zone.Zone.TheVariants.{Utc, CentralEurope, Uk, Japan}
use Rattle.definitions.specs.time.Calendar.{utc_fields, is_leap_month, is_leap_end, century_minutes}
use Rattle.definitions.specs.time.Summer.{is_eu_summer, eu_change_within, us_code}
use Rattle.definitions.specs.time.Zones.{zone_fields}
use Rattle.definitions.specs.time.Places.{Place, minute_of, second_of}
use Rattle.definitions.specs.codes.Dcf77.{dcf_second}
use Rattle.definitions.specs.codes.Msf.{msf_second}
use Rattle.definitions.specs.codes.Wwvb.{wwvb_second}
use Rattle.definitions.specs.codes.Jjy.{jjy_second}

-- DCF77 and MSF send in each minute the fields of the next, WWVB and JJY those of the minute itself.
abbrev pub encoded_minute : Station → ℕ → ℕ
encoded_minute Dcf77 t = t + 1
encoded_minute Msf t = t + 1
encoded_minute Wwvb t = t
encoded_minute Jjy t = t

-- the zone in whose time a station sends them
abbrev pub zone_of : Station → Zone
zone_of Dcf77 = CentralEurope
zone_of Msf = Uk
zone_of Wwvb = Utc
zone_of Jjy = Japan

-- the fields that a station sends in the minute t
abbrev pub encoded_fields : Station → ℕ → Fields
encoded_fields station t = zone_fields (zone_of station) (encoded_minute station t)

-- the year of these fields
abbrev pub encoded_year : Station → ℕ → ℕ
encoded_year station t = (encoded_fields station t).year

-- the minute has 61 seconds
abbrev pub is_long : Bool → ℕ → Bool
is_long announced t = announced && is_leap_end t

-- DCF77 warns of a leap second in the hour before it.
abbrev pub dcf_warns : Bool → ℕ → Bool
dcf_warns announced t = announced && is_leap_end (t / 60 * 60 + 59)

-- the facts of the minute that DCF77 sends at t
abbrev pub dcf_facts : Bool → ℕ → DcfFacts
dcf_facts announced t =
    let f = encoded_fields Dcf77 t in
    record {
      minute = f.minute;
      hour = f.hour;
      day = f.day;
      weekday = f.weekday;
      month = f.month;
      year = f.year % 100;
      summer = is_eu_summer (encoded_minute Dcf77 t);
      change = eu_change_within t 60;
      leap = dcf_warns announced t;
      long = is_long announced t;
    }

-- the facts of the minute that MSF sends at t
abbrev pub msf_facts : Bool → ℕ → MsfFacts
msf_facts announced t =
    let f = encoded_fields Msf t in
    record {
      minute = f.minute;
      hour = f.hour;
      day = f.day;
      weekday = f.weekday;
      month = f.month;
      year = f.year % 100;
      summer = is_eu_summer (encoded_minute Msf t);
      change = eu_change_within t 61;
      long = is_long announced t;
    }

-- the facts of the minute that WWVB sends at t
abbrev pub wwvb_facts : Bool → ℕ → WwvbFacts
wwvb_facts announced t =
    let f = encoded_fields Wwvb t in
    record {
      minute = f.minute;
      hour = f.hour;
      day_of_year = f.day_of_year;
      year = f.year % 100;
      us_code = us_code t;
      leap = announced && is_leap_month (utc_fields t);
      long = is_long announced t;
    }

-- JJY warns of a leap second in UTC's June or December, from the second UTC day of the month on.
abbrev pub jjy_warns : Bool → ℕ → Bool
jjy_warns announced t = announced && (is_leap_month (utc_fields t) && nat_lt 1 (utc_fields t).day)

-- the facts of the minute that JJY sends at t
abbrev pub jjy_facts : Bool → ℕ → JjyFacts
jjy_facts announced t =
    let f = encoded_fields Jjy t in
    record {
      minute = f.minute;
      hour = f.hour;
      day_of_year = f.day_of_year;
      year = f.year % 100;
      weekday = f.weekday;
      leap = jjy_warns announced t;
      long = is_long announced t;
    }

-- the set of symbols that a station may carry at a place
abbrev pub allowed : Station → Bool → Place → ℕ
allowed Dcf77 announced place = dcf_second (dcf_facts announced (minute_of place)) (second_of place)
allowed Msf announced place = msf_second (msf_facts announced (minute_of place)) (second_of place)
allowed Wwvb announced place = wwvb_second (wwvb_facts announced (minute_of place)) (second_of place)
allowed Jjy announced place = jjy_second (jjy_facts announced (minute_of place)) (second_of place)

-- what the 61 seconds that a minute can have may carry, or none where its year isn't encoded; a second 60 that the
-- minute doesn't have carries nothing
abbrev pub telegram_of : Station → Bool → ℕ → Option (List ℕ)
telegram_of station announced t =
    if nat_lt (encoded_year station t) 2100
    then Some (map (λ s. allowed station announced (t, s)) (range_with_len 0 61))
    else None

-- a second may carry one of the station's symbols, or 0 and 1 alike, or it isn't scored
abbrev pub IsSetOf : Station → ℕ → Type 0
IsSetOf station set = (set ≡ unscored) ⊎ ((set ≡ free) ⊎ ((x : ℕ) × (x < symbol_count station) × (set ≡ only x)))

-- the station is one of these
abbrev pub has_station : Stations → Station → Bool
has_station stations station = has_bit stations.mask (number_of station)

-- the same stations as a list, in their order
abbrev pub stations_of : Stations → List Station
stations_of stations = filter (has_station stations) (Dcf77 ∷ Msf ∷ Wwvb ∷ Jjy ∷ [])

-- the minute is one of the century, and so is the year that each of the stations encodes in it
abbrev pub CanBeEncoded : Stations → ℕ → Type 0
CanBeEncoded stations t = (t < century_minutes) × ((station : Station) → has_station stations station ≡ true → encoded_year station t ≤ 2099)
