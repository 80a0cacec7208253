-- Summer time from day to day, and at which minute of a day it changes.
use Rattle.std.proofs.Common.{◌≡◌, ℕ, zero, suc, ◌+◌, ◌/◌, ◌%◌, ◌<◌, ◌≤◌, refl, ap, arith, add-one, add-suc, Bool, true, false, ◌==◌, ◌&&◌, ◌||◌, nat_le}
use Rattle.std.proofs.lemmas.Bool.{eqb-true, eqb-false, lt-leb, le-leb, eq-eqb, ne_eqb}
use Rattle.std.proofs.lemmas.Bool.Decides.{nat_tests}
use Rattle.definitions.specs.declared.day.Day.{Day}
use Rattle.definitions.specs.time.Calendar.{day_at, next_day, minutes_per_day}
use Rattle.definitions.specs.time.Summer.{season_at, is_eu_change, eu_change_within, us_begins, us_ends, us_code, us_code_on}
use Rattle.civil.specs.Seasons.{season_after, us_season, is_eu_change_day, IsNextOneOclock}

-- the day beside a season
season_day : (begins ends : Day → Bool) (n : ℕ) → (season_at begins ends n).0 ≡ day_at n
unfolding season_at day_at
season_day begins ends zero = refl
season_day begins ends (suc n) = ap next_day (season_day begins ends n)

pub season_more : (begins ends : Day → Bool) (n : ℕ) → (season_at begins ends (n + 1)).1 ≡ season_after (begins (day_at n)) (ends (day_at n)) (season_at begins ends n).1
unfolding season_at
season_more begins ends n = rw (add-one, season_day begins ends n) refl

-- the first day lies in winter
pub season_first : (begins ends : Day → Bool) → (season_at begins ends 0).1 ≡ false
unfolding season_at
season_first begins ends = refl

-- WWVB's bits by the day and its season
pub us_code_by_day : (t : ℕ) → us_code_on (day_at (t / minutes_per_day), us_season (t / minutes_per_day)) ≡ us_code t
us_code_by_day t = rw (season_day us_begins us_ends (t / minutes_per_day)) refl

-- the only minute in a day after t that stands at 01:00 UTC is c
is_c : (t c n : ℕ) → IsNextOneOclock t c → n < minutes_per_day → (t + suc n) % minutes_per_day ≡ 60 → t + suc n ≡ c
is_c t c n next few hour = omega (arith, next.after, next.within, next.hour)

-- c comes in this minute, or it came before or comes later
same_order : (c m n : ℕ) → m ≡ suc n → (m == c) ≡ false → nat_le c m ≡ nat_le c n
same_order c m n one other = grind (arith, nat_tests)

or_false : (b : Bool) → (b || false) ≡ b
or_false true = refl
or_false false = refl

-- in the minutes of a day after t only c can bring a change
change_by_day : (t c n : ℕ) → IsNextOneOclock t c → n ≤ minutes_per_day → (nat_le c (t + n) && is_eu_change_day (day_at (c / minutes_per_day))) ≡ eu_change_within t n
unfolding eu_change_within
change_by_day t c zero next few = rw (lt-leb c (t + 0) (omega (arith, next.after))) refl
change_by_day t c (suc n) next few = by_minute (t + suc n == c) refl (change_by_day t c n next (omega arith))
  where
    changes : Bool
    changes = is_eu_change_day (day_at (c / minutes_per_day))

    by_minute : (b : Bool) → (t + suc n == c) ≡ b → (nat_le c (t + n) && changes) ≡ eu_change_within t n
        → (nat_le c (t + suc n) && changes) ≡ (is_eu_change (t + suc n) || eu_change_within t n)
    by_minute true e before =
        let same : t + suc n ≡ c = eqb-true _ _ e in
        let later : nat_le c (t + n) ≡ false = lt-leb _ _ (omega arith) in
        rw (same, le-leb c c (omega arith), eq-eqb _ _ next.hour, ← before, later, or_false) refl
    by_minute false e before =
        let other : ((t + suc n) % minutes_per_day == 60) ≡ false = ne_eqb _ _ (λ h. eqb-false _ _ e (is_c t c n next (omega arith) h)) in
        rw (same_order c (t + suc n) (t + n) (add-suc t n) e, other) before

-- where c is among these minutes
pub change_in_time : (t c n : ℕ) → IsNextOneOclock t c → n ≤ minutes_per_day → c ≤ t + n → is_eu_change_day (day_at (c / minutes_per_day)) ≡ eu_change_within t n
change_in_time t c n next few soon = rw (le-leb c (t + n) soon) at (change_by_day t c n next few)

-- and where it isn't
pub change_too_late : (t c n : ℕ) → IsNextOneOclock t c → n ≤ minutes_per_day → t + n < c → nat_le c (t + n) ≡ eu_change_within t n
change_too_late t c n next few late = rw (lt-leb c (t + n) late) (rw (lt-leb c (t + n) late) at (change_by_day t c n next few))
