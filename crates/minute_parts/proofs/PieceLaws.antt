-- What a station tells by the date, from the UTC day and the time in it.
use Rattle.std.proofs.Common.{◌≡◌, ℕ, ◌+◌, ◌*◌, ◌-◌, ◌/◌, ◌%◌, ◌<◌, ◌≤◌, Bool, true, false, not, ◌==◌, ◌&&◌, ◌||◌, nat_lt, if◌then◌else◌, refl, sym, ap, ◌∙◌, subst, arith}
use Rattle.std.proofs.lemmas.Bool.{ltb-true, ltb-false, eqb-true, eqb-false, lt-ltb, le-ltb, eq-eqb, ne_eqb, lt-leb, or_parts}
use Rattle.std.proofs.lemmas.Bool.Decides.{nat_tests}
use Rattle.signal_base.specs.declared.station.Station.{Station}
use Rattle.signal_base.specs.declared.station.Station.TheVariants.{Dcf77, Msf, Wwvb, Jjy}
use Rattle.definitions.specs.declared.day.Day.{Day}
use Rattle.definitions.specs.time.Calendar.{day_at, is_leap_end}
use Rattle.definitions.specs.time.Summer.{eu_change_within, eu_season, is_eu_summer, is_last_sunday, season_at, us_begins, us_ends, us_code_on}
use Rattle.civil.specs.Seasons.{IsNextOneOclock, is_eu_change_day}
use Rattle.civil.proofs.Seasons.{change_in_time, change_too_late, season_more}
use Rattle.minute_parts.specs.declared.dates.DateFacts.{DateFacts}
use Rattle.minute_parts.specs.Dates.{date_facts}
use Rattle.minute_parts.specs.Pieces.{IsPiece, IsPlainDay, IsUncut, is_leap_day, local_midnight}

-- a test of the time in a day has one answer over a piece
same_test : (m v e cut : ℕ) → m ≤ v → v < e → IsUncut m e cut → nat_lt v cut ≡ nat_lt m cut
same_test m v e cut le lt uncut = grind (arith, nat_tests)

-- the day on which a minute lies that comes a minutes later, where b more minutes end a day
later_day : (t a b : ℕ) → a + b ≡ 1440 → (t + a) / 1440 ≡ (if nat_lt (t % 1440) b then t / 1440 else t / 1440 + 1)
later_day t a b e = by_test (nat_lt (t % 1440) b) refl
  where
    by_test : (early : Bool) → nat_lt (t % 1440) b ≡ early → (t + a) / 1440 ≡ (if early then t / 1440 else t / 1440 + 1)
    by_test true h = let lt = ltb-true _ _ h in omega (arith, e, lt)
    by_test false h = let le = ltb-false _ _ h in omega (arith, e, le)

-- whether the next minute is in European summer time
abbrev next_summer : ℕ → Bool → Bool
next_summer n early = if early then eu_season n else eu_season (n + 1)

next_summer_is : (t : ℕ) → is_eu_summer (t + 1) ≡ next_summer (t / 1440) (nat_lt (t % 1440) 59)
next_summer_is t = by_test (nat_lt (t % 1440) 59) refl
  where
    by_midnight : 59 ≤ t % 1440 → (last : Bool) → (t % 1440 == 1439) ≡ last → is_eu_summer (t + 1) ≡ eu_season (t / 1440 + 1)
    by_midnight late true h =
        let m : t % 1440 ≡ 1439 = eqb-true _ _ h in
        let hour : (t + 1) % 1440 < 60 = omega arith in
        let day : (t + 1) / 1440 ≡ t / 1440 + 1 = omega arith in
        rw (lt-ltb _ _ hour, day) refl
    by_midnight late false h =
        let other = eqb-false _ _ h in
        let hour : 60 ≤ (t + 1) % 1440 = omega arith in
        let day : (t + 1) / 1440 ≡ t / 1440 = omega arith in
        rw (le-ltb _ _ hour, day) refl

    by_test : (early : Bool) → nat_lt (t % 1440) 59 ≡ early → is_eu_summer (t + 1) ≡ next_summer (t / 1440) early
    by_test true h =
        let lt = ltb-true _ _ h in
        let hour : (t + 1) % 1440 < 60 = omega arith in
        let day : (t + 1) / 1440 ≡ t / 1440 = omega arith in
        rw (lt-ltb _ _ hour, day) refl
    by_test false h = by_midnight (ltb-false _ _ h) (t % 1440 == 1439) refl

-- whether a change of European summer time comes soon: at 01:00 UTC of the day
change_today : (t a : ℕ) → 60 ≤ a → a ≤ 1440 → t % 1440 < 60 → eu_change_within t a ≡ is_eu_change_day (day_at (t / 1440))
change_today t a enough few early =
    let c = t / 1440 * 1440 + 60 in
    let next : IsNextOneOclock t (t / 1440 * 1440 + 60) = record { after = omega arith; within = omega arith; hour = omega arith } in
    let day : (t / 1440 * 1440 + 60) / 1440 ≡ t / 1440 = omega arith in
    sym (change_in_time t c a next few (omega arith)) ∙ ap (λ n. is_eu_change_day (day_at n)) day

-- or of the next
change_tomorrow : (t a : ℕ) → a ≤ 1440 → 60 ≤ t % 1440 → 1500 ≤ t % 1440 + a → eu_change_within t a ≡ is_eu_change_day (day_at (t / 1440 + 1))
change_tomorrow t a few late soon =
    let c = t / 1440 * 1440 + 1500 in
    let next : IsNextOneOclock t (t / 1440 * 1440 + 1500) = record { after = omega arith; within = omega arith; hour = omega arith } in
    let day : (t / 1440 * 1440 + 1500) / 1440 ≡ t / 1440 + 1 = omega arith in
    sym (change_in_time t c a next few (omega arith)) ∙ ap (λ n. is_eu_change_day (day_at n)) day

no_change : (t a : ℕ) → a ≤ 1440 → 60 ≤ t % 1440 → t % 1440 + a < 1500 → eu_change_within t a ≡ false
no_change t a few late far =
    let c = t / 1440 * 1440 + 1500 in
    let next : IsNextOneOclock t (t / 1440 * 1440 + 1500) = record { after = omega arith; within = omega arith; hour = omega arith } in
    sym (change_too_late t c a next few (omega arith)) ∙ lt-leb _ _ (omega arith)

dcf_change : (t : ℕ) → eu_change_within t 60 ≡ (nat_lt (t % 1440) 60 && is_eu_change_day (day_at (t / 1440)))
dcf_change t = by_test (nat_lt (t % 1440) 60) refl
  where
    by_test : (early : Bool) → nat_lt (t % 1440) 60 ≡ early → eu_change_within t 60 ≡ (early && is_eu_change_day (day_at (t / 1440)))
    by_test true h = change_today t 60 (omega arith) (omega arith) (ltb-true _ _ h)
    by_test false h = no_change t 60 (omega arith) (ltb-false _ _ h) (omega arith)

-- MSF tells of a change from the last minute of the day before on
abbrev msf_change_by : ℕ → Bool → Bool → Bool
msf_change_by n early before_midnight =
    if early then is_eu_change_day (day_at n) else if before_midnight then false else is_eu_change_day (day_at (n + 1))

msf_change : (t : ℕ) → eu_change_within t 61 ≡ msf_change_by (t / 1440) (nat_lt (t % 1440) 60) (nat_lt (t % 1440) 1439)
msf_change t = by_test (nat_lt (t % 1440) 60) refl
  where
    by_midnight : 60 ≤ t % 1440 → (before : Bool) → nat_lt (t % 1440) 1439 ≡ before
        → eu_change_within t 61 ≡ (if before then false else is_eu_change_day (day_at (t / 1440 + 1)))
    by_midnight late true h = let lt = ltb-true _ _ h in no_change t 61 (omega arith) late (omega (arith, lt))
    by_midnight late false h = let le = ltb-false _ _ h in change_tomorrow t 61 (omega arith) late (omega (arith, le))

    by_test : (early : Bool) → nat_lt (t % 1440) 60 ≡ early → eu_change_within t 61 ≡ msf_change_by (t / 1440) early (nat_lt (t % 1440) 1439)
    by_test true h = change_today t 61 (omega arith) (omega arith) (ltb-true _ _ h)
    by_test false h = by_midnight (ltb-false _ _ h) _ refl

dcf_leap : (t : ℕ) → is_leap_end (t / 60 * 60 + 59) ≡ (not (nat_lt (t % 1440) 1380) && is_leap_day (day_at (t / 1440)))
dcf_leap t = by_test (nat_lt (t % 1440) 1380) refl
  where
    same_day : (t / 60 * 60 + 59) / 1440 ≡ t / 1440
    same_day = omega arith

    by_test : (early : Bool) → nat_lt (t % 1440) 1380 ≡ early → is_leap_end (t / 60 * 60 + 59) ≡ (not early && is_leap_day (day_at (t / 1440)))
    by_test true h =
        let lt = ltb-true _ _ h in
        let other : ((t / 60 * 60 + 59) % 1440 == 1439) ≡ false = ne_eqb _ _ (λ e. absurd (omega (arith, lt, e))) in
        rw (same_day, other) refl
    by_test false h =
        let le = ltb-false _ _ h in
        let last : ((t / 60 * 60 + 59) % 1440 == 1439) ≡ true = eq-eqb _ _ (omega (arith, le)) in
        rw (same_day, last) refl

-- the month ends with one
abbrev is_leap_month_day : Day → Bool
is_leap_month_day d = (d.month == 6) || (d.month == 12)

pub same_facts : (d d' : Day) (a a' b b' c c' : Bool) (u u' : ℕ) → d ≡ d' → a ≡ a' → b ≡ b' → u ≡ u' → c ≡ c'
    → ◌≡◌ {A = DateFacts} (record { day = d; summer = a; change = b; us_code = u; leap = c }) (record { day = d'; summer = a'; change = b'; us_code = u'; leap = c' })
same_facts d d' a a' b b' c c' u u' day summer change code leap = cc

-- the local day of the next minute, where local midnight comes with s in summer and with w in winter
abbrev next_day_by : ℕ → Bool → Bool → Bool → ℕ
next_day_by n summer before_summer before_winter =
    if summer then (if before_summer then n else n + 1) else (if before_winter then n else n + 1)

day_by : (t a s w : ℕ) → a + 61 + s ≡ 1440 → a + 1 + w ≡ 1440 → (summer : Bool)
    → (t + 1 + (if summer then a + 60 else a)) / 1440 ≡ next_day_by (t / 1440) summer (nat_lt (t % 1440) s) (nat_lt (t % 1440) w)
day_by t a s w e h true =
    let same : t + 1 + (a + 60) ≡ t + (a + 61) = omega arith in
    ap (λ x. x / 1440) same ∙ later_day t (a + 61) s e
day_by t a s w e h false =
    let same : t + 1 + a ≡ t + (a + 1) = omega arith in
    ap (λ x. x / 1440) same ∙ later_day t (a + 1) w h

-- The facts of a minute by its UTC day n and the minute m of that day: they ask of m only on which side of some minutes
-- it lies.
abbrev dcf_form : ℕ → Bool → Bool → Bool → Bool → Bool → DateFacts
dcf_form n before_one early before_summer before_winter before_last =
    let summer = next_summer n before_one in
    record {
      day = day_at (next_day_by n summer before_summer before_winter);
      summer = summer;
      change = early && is_eu_change_day (day_at n);
      us_code = 0;
      leap = not before_last && is_leap_day (day_at n);
    }

abbrev msf_form : ℕ → Bool → Bool → Bool → Bool → DateFacts
msf_form n before_one early before_summer before_winter =
    let summer = next_summer n before_one in
    record {
      day = day_at (next_day_by n summer before_summer before_winter);
      summer = summer;
      change = msf_change_by n early before_winter;
      us_code = 0;
      leap = false;
    }

abbrev jjy_form : ℕ → Bool → DateFacts
jjy_form n before_midnight =
    record {
      day = day_at (if before_midnight then n else n + 1);
      summer = false;
      change = false;
      us_code = 0;
      leap = is_leap_month_day (day_at n) && nat_lt 1 (day_at n).day;
    }

abbrev form_at : Station → ℕ → ℕ → DateFacts
form_at Dcf77 n m = dcf_form n (nat_lt m 59) (nat_lt m 60) (nat_lt m 1319) (nat_lt m 1379) (nat_lt m 1380)
form_at Msf n m = msf_form n (nat_lt m 59) (nat_lt m 60) (nat_lt m 1379) (nat_lt m 1439)
form_at Wwvb n m = record { day = day_at n; summer = false; change = false; us_code = us_code_on (season_at us_begins us_ends n); leap = is_leap_month_day (day_at n) }
form_at Jjy n m = jjy_form n (nat_lt m 900)

next_day_is : (t a s w : ℕ) → a + 61 + s ≡ 1440 → a + 1 + w ≡ 1440
    → (t + 1 + (if is_eu_summer (t + 1) then a + 60 else a)) / 1440
    ≡ next_day_by (t / 1440) (next_summer (t / 1440) (nat_lt (t % 1440) 59)) (nat_lt (t % 1440) s) (nat_lt (t % 1440) w)
next_day_is t a s w e h =
    day_by t a s w e h (is_eu_summer (t + 1))
    ∙ ap (λ b. next_day_by (t / 1440) b (nat_lt (t % 1440) s) (nat_lt (t % 1440) w)) (next_summer_is t)

-- so the facts of any minute are
facts_are : (station : Station) (t : ℕ) → date_facts station t ≡ form_at station (t / 1440) (t % 1440)
facts_are Dcf77 t =
    same_facts _ _ _ _ _ _ _ _ _ _ (ap day_at (next_day_is t 60 1319 1379 (omega arith) (omega arith)))
    (next_summer_is t) (dcf_change t) refl (dcf_leap t)
facts_are Msf t =
    same_facts _ _ _ _ _ _ _ _ _ _ (ap day_at (next_day_is t 0 1379 1439 (omega arith) (omega arith)))
    (next_summer_is t) (msf_change t) refl refl
facts_are Wwvb t =
    let same : (t + 0) / 1440 ≡ t / 1440 = omega arith in
    same_facts _ _ _ _ _ _ _ _ _ _ (ap day_at same) refl refl refl refl
facts_are Jjy t = same_facts _ _ _ _ _ _ _ _ _ _ (ap day_at (later_day t 540 900 (omega arith))) refl refl refl refl

-- two times of a piece have the same facts
same_form : (station : Station) (n m v e : ℕ) → m ≤ v → v < e → IsPiece station m e → form_at station n v ≡ form_at station n m
same_form Dcf77 n m v e le lt piece =
    rw (
      same_test m v e 59 le lt piece.next_is_one,
      same_test m v e 60 le lt piece.one_oclock,
      same_test m v e 1319 le lt piece.summer_midnight,
      same_test m v e 1379 le lt piece.winter_midnight,
      same_test m v e 1380 le lt piece.last_hour,
    ) refl
same_form Msf n m v e le lt piece =
    rw (
      same_test m v e 59 le lt piece.next_is_one,
      same_test m v e 60 le lt piece.one_oclock,
      same_test m v e 1379 le lt piece.summer_midnight,
      same_test m v e 1439 le lt piece.winter_midnight,
    ) refl
same_form Wwvb n m v e le lt piece = refl
same_form Jjy n m v e le lt piece = rw (same_test m v e 900 le lt piece) refl

pub same_in_piece : (station : Station) (t v e : ℕ) → e ≤ 1440 → IsPiece station (t % 1440) e → t ≤ v → v < t - t % 1440 + e
    → date_facts station v ≡ date_facts station t
same_in_piece station t v e within piece le lt =
    let day : v / 1440 ≡ t / 1440 = omega arith in
    facts_are station v
    ∙ ap (λ n. form_at station n (v % 1440)) day
    ∙ same_form station (t / 1440) (t % 1440) (v % 1440) e (omega (arith, day)) (omega (arith, day)) piece
    ∙ sym (facts_are station t)

-- Which days change something, as they are asked for.
pub change_on : (n : ℕ) → eu_change_within (n * 1440) 60 ≡ is_eu_change_day (day_at n)
change_on n =
    let day : n * 1440 / 1440 ≡ n = omega arith in
    change_today (n * 1440) 60 (omega arith) (omega arith) (omega arith) ∙ ap (λ d. is_eu_change_day (day_at d)) day

pub change_after : (n : ℕ) → eu_change_within (n * 1440 + 60) 1440 ≡ is_eu_change_day (day_at (n + 1))
change_after n =
    let day : (n * 1440 + 60) / 1440 + 1 ≡ n + 1 = omega arith in
    change_tomorrow (n * 1440 + 60) 1440 (omega arith) (omega arith) (omega arith) ∙ ap (λ d. is_eu_change_day (day_at d)) day

pub leap_on : (n : ℕ) → is_leap_end (n * 1440 + 1439) ≡ is_leap_day (day_at n)
leap_on n =
    let day : (n * 1440 + 1439) / 1440 ≡ n = omega arith in
    let last : ((n * 1440 + 1439) % 1440 == 1439) ≡ true = eq-eqb _ _ (omega arith) in
    rw (day, last) refl

-- The facts of a day on which nothing changes but the local day: they ask of the minute only whether it comes before local
-- midnight.
abbrev plain_form : ℕ → Bool → Bool → DateFacts
plain_form n summer before =
    record { day = day_at (if before then n else n + 1); summer = summer; change = false; us_code = 0; leap = false }

and_false : (b : Bool) → (b && false) ≡ false
and_false true = refl
and_false false = refl

same_season : (n : ℕ) → is_eu_change_day (day_at n) ≡ false → eu_season (n + 1) ≡ eu_season n
same_season n still =
    let none = or_parts (is_last_sunday 3 (day_at n)) (is_last_sunday 10 (day_at n)) still in
    season_more (is_last_sunday 3) (is_last_sunday 10) n ∙ rw (none.0, none.1) refl

plain_summer : (n : ℕ) (early : Bool) → is_eu_change_day (day_at n) ≡ false → next_summer n early ≡ eu_season n
plain_summer n true still = refl
plain_summer n false still = same_season n still

plain_day : (n : ℕ) (summer before_summer before_winter : Bool)
    → day_at (next_day_by n summer before_summer before_winter) ≡ day_at (if (if summer then before_summer else before_winter) then n else n + 1)
plain_day n true a b = refl
plain_day n false a b = refl

plain_change : (early : Bool) (d : Day) → is_eu_change_day d ≡ false → (early && is_eu_change_day d) ≡ false
plain_change early d still = rw still (and_false early)

plain_leap : (late : Bool) (d : Day) → is_leap_day d ≡ false → (late && is_leap_day d) ≡ false
plain_leap late d none = rw none (and_false late)

msf_plain_change : (n : ℕ) (early before : Bool) → is_eu_change_day (day_at n) ≡ false → is_eu_change_day (day_at (n + 1)) ≡ false
    → msf_change_by n early before ≡ false
msf_plain_change n true before today tomorrow = today
msf_plain_change n false true today tomorrow = refl
msf_plain_change n false false today tomorrow = tomorrow

dcf_plain : (n : ℕ) (a b c d e : Bool) → IsPlainDay Dcf77 n → dcf_form n a b c d e ≡ plain_form n (eu_season n) (if eu_season n then c else d)
dcf_plain n a b c d e plain =
    let summer = plain_summer n a plain.0 in
    same_facts _ _ _ _ _ _ _ _ _ _
    (ap (λ s. day_at (next_day_by n s c d)) summer ∙ plain_day n (eu_season n) c d)
    summer (plain_change b (day_at n) plain.0) refl (plain_leap (not e) (day_at n) plain.1)

msf_plain : (n : ℕ) (a b c d : Bool) → IsPlainDay Msf n → msf_form n a b c d ≡ plain_form n (eu_season n) (if eu_season n then c else d)
msf_plain n a b c d plain =
    let summer = plain_summer n a plain.0 in
    same_facts _ _ _ _ _ _ _ _ _ _
    (ap (λ s. day_at (next_day_by n s c d)) summer ∙ plain_day n (eu_season n) c d)
    summer (msf_plain_change n b d plain.0 plain.1) refl refl

-- two times of a day lie on the same side of local midnight
same_side : (m v e s w : ℕ) (summer : Bool) → m ≤ v → v < e → IsUncut m e (if summer then s else w)
    → (if summer then nat_lt v s else nat_lt v w) ≡ (if summer then nat_lt m s else nat_lt m w)
same_side m v e s w true le lt uncut = same_test m v e s le lt uncut
same_side m v e s w false le lt uncut = same_test m v e w le lt uncut

same_plain_form : (station : Station) (n m v e : ℕ) → m ≤ v → v < e → IsPlainDay station n → IsUncut m e (local_midnight station (form_at station n m).summer)
    → form_at station n v ≡ form_at station n m
same_plain_form Dcf77 n m v e le lt plain uncut =
    let summer = plain_summer n (nat_lt m 59) plain.0 in
    let at_midnight = subst (λ s. IsUncut m e (local_midnight Dcf77 s)) summer uncut in
    dcf_plain n _ _ _ _ _ plain
    ∙ ap (plain_form n (eu_season n)) (same_side m v e 1319 1379 (eu_season n) le lt at_midnight)
    ∙ sym (dcf_plain n _ _ _ _ _ plain)
same_plain_form Msf n m v e le lt plain uncut =
    let summer = plain_summer n (nat_lt m 59) plain.0 in
    let at_midnight = subst (λ s. IsUncut m e (local_midnight Msf s)) summer uncut in
    msf_plain n _ _ _ _ plain
    ∙ ap (plain_form n (eu_season n)) (same_side m v e 1379 1439 (eu_season n) le lt at_midnight)
    ∙ sym (msf_plain n _ _ _ _ plain)
same_plain_form Wwvb n m v e le lt plain uncut = absurd plain
same_plain_form Jjy n m v e le lt plain uncut = absurd plain

pub same_in_plain_piece : (station : Station) (t v e : ℕ) → IsPlainDay station (t / 1440) → e ≤ 1440
    → IsUncut (t % 1440) e (local_midnight station (date_facts station t).summer) → t ≤ v → v < t - t % 1440 + e
    → date_facts station v ≡ date_facts station t
same_in_plain_piece station t v e plain within uncut le lt =
    let day : v / 1440 ≡ t / 1440 = omega arith in
    let at_midnight = subst (λ (f : DateFacts). IsUncut (t % 1440) e (local_midnight station f.summer)) (facts_are station t) uncut in
    facts_are station v
    ∙ ap (λ n. form_at station n (v % 1440)) day
    ∙ same_plain_form station (t / 1440) (t % 1440) (v % 1440) e (omega (arith, day)) (omega (arith, day)) plain at_midnight
    ∙ sym (facts_are station t)
