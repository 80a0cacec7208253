-- A minute's facts are those of its date and those of its time of day.
use Rattle.std.proofs.Common.{◌≡◌, ℕ, ◌+◌, ◌/◌, ◌%◌, ◌<◌, Bool, true, false, ◌&&◌, if◌then◌else◌, get_or, refl, ap, ◌∙◌, arith}
use Rattle.std.proofs.lemmas.List.FromFn.{get_or-map-range_with_len}
use Rattle.signal_base.specs.declared.station.Station.{Station}
use Rattle.signal_base.specs.declared.station.Station.TheVariants.{Dcf77, Msf, Wwvb, Jjy}
use Rattle.definitions.specs.declared.dcf77.DcfFacts.{DcfFacts}
use Rattle.definitions.specs.declared.msf.MsfFacts.{MsfFacts}
use Rattle.definitions.specs.declared.wwvb.WwvbFacts.{WwvbFacts}
use Rattle.definitions.specs.declared.jjy.JjyFacts.{JjyFacts}
use Rattle.definitions.specs.time.Calendar.{is_leap_end, minute_length}
use Rattle.definitions.specs.time.Zones.{zone_shift}
use Rattle.definitions.specs.time.Summer.{is_eu_summer}
use Rattle.definitions.specs.codes.Allowed.{allowed, dcf_facts, encoded_minute, jjy_facts, msf_facts, wwvb_facts, zone_of}
use Rattle.definitions.specs.codes.Dcf77.{dcf_second}
use Rattle.definitions.specs.codes.Msf.{msf_second}
use Rattle.definitions.specs.codes.Wwvb.{wwvb_second}
use Rattle.definitions.specs.codes.Jjy.{jjy_second}
use Rattle.minute_parts.specs.declared.dates.DateFacts.{DateFacts}
use Rattle.minute_parts.specs.Overlay.{overlay}
use Rattle.minute_parts.specs.Dates.{date_facts, date_part, date_set, dcf_facts_by, facts_where, jjy_facts_by, msf_facts_by, set_by, shift_by, time_part, time_set, wwvb_facts_by}
use Rattle.minute_parts.proofs.SplitLaws.{split}

-- the minute in local time that is encoded
abbrev pub local_minute : Station → ℕ → ℕ
local_minute station t = let n = encoded_minute station t in n + zone_shift (zone_of station) n

summer_shift : (t a : ℕ) (summer : Bool) → t + 1 + (if summer then a + 60 else a) ≡ t + (a + 1 + (if summer then 60 else 0))
summer_shift t a true = omega arith
summer_shift t a false = omega arith

pub shifted : (station : Station) (t : ℕ) → local_minute station t ≡ t + shift_by station (date_facts station t)
shifted Dcf77 t = summer_shift t 60 (is_eu_summer (t + 1))
shifted Msf t = summer_shift t 0 (is_eu_summer (t + 1))
shifted Wwvb t = refl
shifted Jjy t = refl

-- the minute of the local day has the same minute and hour
minute_in_day : (x y : ℕ) → x ≡ y → x % 60 ≡ y % 1440 % 60
minute_in_day x y e = omega (arith, e)

hour_in_day : (x y : ℕ) → x ≡ y → x % 1440 / 60 ≡ y % 1440 / 60
hour_in_day x y e = omega (arith, e)

not_long : (long : Bool) → ◌≡◌ {A = ℕ} (if long then 61 else 60) 60 → long ≡ false
not_long true e = absurd (omega (arith, e))
not_long false e = refl

dcf_same : (m h m' h' d w o y : ℕ) (a b c l : Bool) → m ≡ m' → h ≡ h' → l ≡ false
    → ◌≡◌ {A = DcfFacts} (record { minute = m; hour = h; day = d; weekday = w; month = o; year = y; summer = a; change = b; leap = c; long = l })
    (record { minute = m'; hour = h'; day = d; weekday = w; month = o; year = y; summer = a; change = b; leap = c; long = false })
dcf_same m h m' h' d w o y a b c l minute hour long = cc

msf_same : (m h m' h' d w o y : ℕ) (a b l : Bool) → m ≡ m' → h ≡ h' → l ≡ false
    → ◌≡◌ {A = MsfFacts} (record { minute = m; hour = h; day = d; weekday = w; month = o; year = y; summer = a; change = b; long = l })
    (record { minute = m'; hour = h'; day = d; weekday = w; month = o; year = y; summer = a; change = b; long = false })
msf_same m h m' h' d w o y a b l minute hour long = cc

wwvb_same : (m h m' h' d y u : ℕ) (a l : Bool) → m ≡ m' → h ≡ h' → l ≡ false
    → ◌≡◌ {A = WwvbFacts} (record { minute = m; hour = h; day_of_year = d; year = y; us_code = u; leap = a; long = l })
    (record { minute = m'; hour = h'; day_of_year = d; year = y; us_code = u; leap = a; long = false })
wwvb_same m h m' h' d y u a l minute hour long = cc

jjy_same : (m h m' h' d y w : ℕ) (a l : Bool) → m ≡ m' → h ≡ h' → l ≡ false
    → ◌≡◌ {A = JjyFacts} (record { minute = m; hour = h; day_of_year = d; year = y; weekday = w; leap = a; long = l })
    (record { minute = m'; hour = h'; day_of_year = d; year = y; weekday = w; leap = a; long = false })
jjy_same m h m' h' d y w a l minute hour long = cc

module _ (t : ℕ) where
  -- the minute of the local day that is encoded
  abbrev pub time_at : Station → ℕ
  time_at station = (t + shift_by station (date_facts station t)) % 1440

  abbrev facts_at : Station → Bool → DateFacts
  facts_at station announced = facts_where announced (date_facts station t)

  same_minute : (station : Station) → local_minute station t % 60 ≡ time_at station % 60
  same_minute station = minute_in_day _ _ (shifted station t)

  same_hour : (station : Station) → local_minute station t % 1440 / 60 ≡ time_at station / 60
  same_hour station = hour_in_day _ _ (shifted station t)

  dcf_facts_at : (announced : Bool) → (announced && is_leap_end t) ≡ false → dcf_facts announced t ≡ dcf_facts_by (facts_at Dcf77 announced) (time_at Dcf77)
  dcf_facts_at true short = dcf_same _ _ _ _ _ _ _ _ _ _ _ _ (same_minute Dcf77) (same_hour Dcf77) short
  dcf_facts_at false short = dcf_same _ _ _ _ _ _ _ _ _ _ _ _ (same_minute Dcf77) (same_hour Dcf77) short

  msf_facts_at : (announced : Bool) → (announced && is_leap_end t) ≡ false → msf_facts announced t ≡ msf_facts_by (facts_at Msf announced) (time_at Msf)
  msf_facts_at true short = msf_same _ _ _ _ _ _ _ _ _ _ _ (same_minute Msf) (same_hour Msf) short
  msf_facts_at false short = msf_same _ _ _ _ _ _ _ _ _ _ _ (same_minute Msf) (same_hour Msf) short

  wwvb_facts_at : (announced : Bool) → (announced && is_leap_end t) ≡ false → wwvb_facts announced t ≡ wwvb_facts_by (facts_at Wwvb announced) (time_at Wwvb)
  wwvb_facts_at true short = wwvb_same _ _ _ _ _ _ _ _ _ (same_minute Wwvb) (same_hour Wwvb) short
  wwvb_facts_at false short = wwvb_same _ _ _ _ _ _ _ _ _ (same_minute Wwvb) (same_hour Wwvb) short

  jjy_facts_at : (announced : Bool) → (announced && is_leap_end t) ≡ false → jjy_facts announced t ≡ jjy_facts_by (facts_at Jjy announced) (time_at Jjy)
  jjy_facts_at true short = jjy_same _ _ _ _ _ _ _ _ _ (same_minute Jjy) (same_hour Jjy) short
  jjy_facts_at false short = jjy_same _ _ _ _ _ _ _ _ _ (same_minute Jjy) (same_hour Jjy) short

  -- what a second carries follows from the facts of the date and the time of day
  allowed_by : (station : Station) (announced : Bool) (s : ℕ) → (announced && is_leap_end t) ≡ false
      → allowed station announced (t, s) ≡ set_by station (facts_at station announced) (time_at station) s
  allowed_by Dcf77 announced s short = ap (λ f. dcf_second f s) (dcf_facts_at announced short)
  allowed_by Msf announced s short = ap (λ f. msf_second f s) (msf_facts_at announced short)
  allowed_by Wwvb announced s short = ap (λ f. wwvb_second f s) (wwvb_facts_at announced short)
  allowed_by Jjy announced s short = ap (λ f. jjy_second f s) (jjy_facts_at announced short)

pub in_time_part : (station : Station) (u s : ℕ) → s < 60 → get_or (time_part station u) s 0 ≡ time_set station u s
unfolding time_part
in_time_part station u s lt = get_or-map-range_with_len (time_set station u) 0 60 s s 0 lt (omega arith)

pub in_date_part : (station : Station) (f : DateFacts) (s : ℕ) → s < 60 → get_or (date_part station f) s 0 ≡ date_set station f s
unfolding date_part
in_date_part station f s lt = get_or-map-range_with_len (date_set station f) 0 60 s s 0 lt (omega arith)

-- in a minute of 60 seconds each carries what the two parts tell of it
pub allowed_by_parts : (station : Station) (announced : Bool) (t s : ℕ) → minute_length announced t ≡ 60 → s < 60
    → allowed station announced (t, s)
    ≡ overlay (get_or (time_part station (time_at t station)) s 0) (get_or (date_part station (facts_where announced (date_facts station t))) s 0)
allowed_by_parts station announced t s short lt =
    rw (in_time_part station (time_at t station) s lt, in_date_part station (facts_where announced (date_facts station t)) s lt)
    (allowed_by t station announced s (not_long _ short) ∙ split station (facts_where announced (date_facts station t)) (time_at t station) s lt)
