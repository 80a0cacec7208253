-- The days of the calendar are jiff's dates, one after another.
use Rattle.std.proofs.Common.{◌≡◌, ℕ, zero, suc, ◌+◌, ◌-◌, ◌%◌, ◌<◌, ◌≤◌, refl, sym, ap, ◌∙◌, arith, ℤ, pos, zero-add, List, [], ◌∷◌, ◌++◌, length, get_or, below_more, ◌+ℤ◌, Bool, true, false, nat_lt}
use Rattle.std.proofs.Math.ListN.{get_or-append}
use Rattle.std.proofs.lemmas.List.{get_or_push}
use Rattle.std.proofs.lemmas.Bool.{ltb-true, ltb-false}
use Rattle.std.proofs.lemmas.Bool.Decides.{nat_tests}
use Rattle.jiff_core.specs.declared.civil.date.Date.{Date}
use Rattle.jiff_core.specs.Calendar.{day_count, days_from_civil, days_of_years, days_of_months, days_in_month, weekday_number}
use Rattle.jiff_core.specs.Date.{epoch_day, ordinal}
use Rattle.jiff_core.proofs.SignedLemmas.{signed_arith}
use Rattle.jiff_core.proofs.CalendarLemmas.{days_in_month_bounds, days_in_year_bounds, day_of_year_bound, days_of_months-zero, days_of_months_more, weekday_number-add}
use Rattle.jiff_core.proofs.DateLemmas.{epoch_day_injective, days_from_civil-day, days_from_civil-next_month, days_from_civil-next_year}
use Rattle.definitions.specs.declared.day.Day.{Day}
use Rattle.civil.specs.declared.days.Entry.{Entry}
use Rattle.civil.specs.Days.{IsPlausible, AreEntries, entry_at, first_entry}
use Rattle.civil.specs.Dated.{IsOn, IsNumbered}
use Rattle.definitions.proofs.DateLaws.{early_year, years_rise}
use Rattle.definitions.specs.time.Calendar.{century_days, day_at, next_day, first_day, month_length, next_weekday}

-- the date of these numbers
abbrev date_of : (y m d : ℕ) → y ≤ 9999 → 1 ≤ m → m ≤ 12 → 1 ≤ d → d ≤ month_length y m → Date
date_of y m d year low high first last =
    record {
      year = pos y;
      month = m;
      day = d;
      year_in = (omega (arith, signed_arith), omega (arith, signed_arith));
      month_in = (low, high);
      day_in = (first, last);
    }

abbrev first_date : Date
first_date = date_of 2000 1 1 (omega arith) (omega arith) (omega arith) (omega arith) (omega arith)

-- its day number and its place in the year
number_of : (date : Date) (d : Day) → IsOn date d → epoch_day date ≡ days_from_civil (pos d.year) d.month d.day
number_of date d on = rw (on.year, on.month, on.day) refl

place_of : (date : Date) (d : Day) → IsOn date d → days_of_months (pos d.year) (d.month - 1) + d.day ≡ d.day_of_year
place_of date d on = rw (on.year, on.month, on.day) at on.place

-- the weekday a day later
later_weekday : (w : ℕ) (day : ℤ) (next : ℤ) → next ≡ day +ℤ pos 1 → (weekday_number day + 1) % 7 ≡ w → (weekday_number next + 1) % 7 ≡ next_weekday w
later_weekday w day next one is =
    let step : weekday_number next ≡ (weekday_number day + 1) % 7 = weekday_number-add day next 1 one in
    grind (arith, nat_tests)

-- a date follows, and is this day
abbrev pub IsFollowed : Date → Day → Type 0
IsFollowed date d = (b : Date) × (epoch_day b ≡ epoch_day date +ℤ pos 1) × IsOn b d

-- a date a day later, of these numbers
followed : (date b : Date) (d e : Day) → IsOn date d → epoch_day b ≡ epoch_day date +ℤ pos 1 → b.year ≡ pos e.year → b.month ≡ e.month → b.day ≡ e.day
    → e.weekday ≡ next_weekday d.weekday → ordinal b ≡ e.day_of_year → IsFollowed date e
followed date b d e on one year month day weekday place =
    (b, one, record { year = year; month = month; day = day; weekday = later_weekday d.weekday (epoch_day date) (epoch_day b) one on.weekday ∙ sym weekday; place = place })

in_month : (date : Date) (d : Day) → IsOn date d → d.year ≤ 9998 → d.day < month_length d.year d.month
    → IsFollowed date (record { year = d.year; month = d.month; day = d.day + 1; weekday = next_weekday d.weekday; day_of_year = d.day_of_year + 1 })
in_month date d on early within =
    let low : 1 ≤ d.month = rw on.month at date.month_in.0 in
    let high : d.month ≤ 12 = rw on.month at date.month_in.1 in
    let first : 1 ≤ d.day = rw on.day at date.day_in.0 in
    let b : Date = date_of d.year d.month (d.day + 1) (omega arith) low high (omega arith) (omega arith) in
    let one : days_from_civil (pos d.year) d.month (d.day + 1) ≡ days_from_civil (pos d.year) d.month d.day +ℤ pos 1 = omega (arith, signed_arith, days_from_civil-day (pos d.year) d.month (d.day + 1) d.day (omega arith) first) in
    followed date b d _ on (one ∙ ap (λ z. z +ℤ pos 1) (sym (number_of date d on))) refl refl refl refl (omega (arith, place_of date d on))

next_month : (date : Date) (d : Day) → IsOn date d → d.year ≤ 9998 → month_length d.year d.month ≤ d.day → d.month < 12
    → IsFollowed date (record { year = d.year; month = d.month + 1; day = 1; weekday = next_weekday d.weekday; day_of_year = d.day_of_year + 1 })
next_month date d on early over before =
    let low : 1 ≤ d.month = rw on.month at date.month_in.0 in
    let last : d.day ≤ days_in_month (pos d.year) d.month = rw (on.year, on.month, on.day) at date.day_in.1 in
    let long = days_in_month_bounds (pos d.year) (d.month + 1) in
    let b : Date = date_of d.year (d.month + 1) 1 (omega arith) (omega arith) (omega arith) (omega arith) (omega arith) in
    let before_it : d.month + 1 - 1 ≡ d.month = omega arith in
    let is_last : d.day ≡ days_in_month (pos d.year) d.month = omega arith in
    followed date b d _ on (days_from_civil-next_month (pos d.year) d.month d.day low is_last ∙ ap (λ z. z +ℤ pos 1) (sym (number_of date d on)))
    refl refl refl refl (omega (arith, place_of date d on, days_of_months_more (pos d.year) d.month low, ap (days_of_months (pos d.year)) before_it))

next_year : (date : Date) (d : Day) → IsOn date d → d.year ≤ 9998 → month_length d.year d.month ≤ d.day → 12 ≤ d.month
    → IsFollowed date (record { year = d.year + 1; month = 1; day = 1; weekday = next_weekday d.weekday; day_of_year = 1 })
next_year date d on early over december =
    let high : d.month ≤ 12 = rw on.month at date.month_in.1 in
    let last : d.day ≤ days_in_month (pos d.year) d.month = rw (on.year, on.month, on.day) at date.day_in.1 in
    let is_december : d.month ≡ 12 = omega arith in
    let thirty_one : d.day ≡ 31 = omega (arith, ap (days_in_month (pos d.year)) is_december) in
    let b : Date = date_of (d.year + 1) 1 1 (omega arith) (omega arith) (omega arith) (omega arith) (omega arith) in
    let number : epoch_day date ≡ days_from_civil (pos d.year) 12 31 = number_of date d on ∙ rw (is_december, thirty_one) refl in
    followed date b d _ on
    (days_from_civil-next_year (pos d.year) (pos (d.year + 1)) (omega (arith, signed_arith)) (omega (arith, signed_arith)) ∙ ap (λ z. z +ℤ pos 1) (sym number))
    refl refl refl refl (omega (arith, days_of_months-zero (pos (d.year + 1))))

-- the day after
pub day_after : (date : Date) (d : Day) → IsOn date d → d.year ≤ 9998 → IsFollowed date (next_day d)
day_after date d on early = by_day (nat_lt d.day (month_length d.year d.month)) refl
  where
    by_month : nat_lt d.day (month_length d.year d.month) ≡ false → (b : Bool) → nat_lt d.month 12 ≡ b → IsFollowed date (next_day d)
    by_month over true e = rw (over, e) (next_month date d on early (ltb-false _ _ over) (ltb-true _ _ e))
    by_month over false e = rw (over, e) (next_year date d on early (ltb-false _ _ over) (ltb-false _ _ e))

    by_day : (b : Bool) → nat_lt d.day (month_length d.year d.month) ≡ b → IsFollowed date (next_day d)
    by_day true e = rw e (in_month date d on early (ltb-true _ _ e))
    by_day false e = by_month e (nat_lt d.month 12) refl

pub first_number : days_from_civil (pos 2000) 1 1 ≡ pos 10957
unfolding days_from_civil day_count days_of_years days_of_months
first_number = refl

-- the first day is a Saturday
pub first_on : (date : Date) → date.year ≡ pos 2000 → date.month ≡ 1 → date.day ≡ 1 → IsOn date first_day
unfolding days_of_months weekday_number
first_on date year month day =
    record {
      year = year;
      month = month;
      day = day;
      weekday = rw (year, month, day) (rw first_number refl);
      place = rw (year, month, day) refl;
    }

-- each day of the table has a date, with this number
pub has_date : (n : ℕ) → n ≤ century_days → (date : Date) × IsOn date (day_at n) × IsNumbered date n
unfolding day_at
has_date zero h = (first_date, first_on first_date refl refl refl, first_number)
has_date (suc n) h =
    let before = has_date n (omega arith) in
    let after = day_after before.0 (day_at n) before.1 (omega (arith, early_year n (omega arith))) in
    (after.0, after.2, omega (arith, signed_arith, after.1, before.2))

-- the date of this number is that day
pub numbered_on : (date : Date) (n : ℕ) → n ≤ century_days → IsNumbered date n → IsOn date (day_at n)
numbered_on date n h number =
    let there = has_date n h in
    let same = epoch_day_injective date there.0 (number ∙ sym there.2) in
    let on = there.1 in
    record {
      year = same.0 ∙ on.year;
      month = same.1 ∙ on.month;
      day = same.2 ∙ on.day;
      weekday = ap (λ z. (weekday_number z + 1) % 7) (number ∙ sym there.2) ∙ on.weekday;
      place = rw (same.0, same.1, same.2) on.place;
    }

zeroth : (day_at 0).year ≡ 2000
unfolding day_at
zeroth = refl

-- the fields of the table's days are in their ranges
pub plausible : (n : ℕ) → n ≤ century_days → IsPlausible (day_at n)
plausible n h =
    let date = (has_date n h).0 in
    let on : IsOn date (day_at n) = (has_date n h).1 in
    let long = days_in_month_bounds date.year date.month in
    let place = day_of_year_bound date.year date.month date.day (date.year_in, date.month_in, date.day_in) in
    record {
      year = (omega (arith, rw zero-add at (years_rise 0 n), zeroth), early_year n h);
      month = (rw on.month at date.month_in.0, rw on.month at date.month_in.1);
      day = (rw on.day at date.day_in.0, omega (arith, on.day, date.day_in));
      weekday = omega (arith, on.weekday);
      day_of_year = (omega (arith, on.place, date.day_in), omega (arith, on.place, place, days_in_year_bounds date.year));
    }

-- the entry of these parts
pub by_parts : (d d' : Day) (a a' b b' : Bool) → d ≡ d' → a ≡ a' → b ≡ b'
    → ◌≡◌ {A = Entry} (record { day = d; eu_summer = a; us_summer = b }) (record { day = d'; eu_summer = a'; us_summer = b' })
by_parts d d' a a' b b' x y z = cc

-- one more day of the table
pub entries_more : (entries : List Entry) (n : ℕ) → length entries ≡ n → AreEntries entries n → (e : Entry) → e ≡ entry_at n → AreEntries (entries ++ e ∷ []) (n + 1)
entries_more entries n long each e is =
    below_more (λ k. get_or (entries ++ e ∷ []) k first_entry ≡ entry_at k) n
    (λ k h. get_or-append entries (e ∷ []) first_entry k (omega arith) ∙ each k h)
    (get_or_push entries e first_entry n long ∙ is)

by_fields : (y m d w n y' m' d' w' n' : ℕ) → y ≡ y' → m ≡ m' → d ≡ d' → w ≡ w' → n ≡ n'
    → ◌≡◌ {A = Day} (record { year = y; month = m; day = d; weekday = w; day_of_year = n }) (record { year = y'; month = m'; day = d'; weekday = w'; day_of_year = n' })
by_fields y m d w n y' m' d' w' n' a b c e f = cc

-- the day that a date is, is one
pub one_day : (date : Date) (d e : Day) → IsOn date d → IsOn date e → d ≡ e
one_day date d e on also =
    let year : pos d.year ≡ pos e.year = sym on.year ∙ also.year in
    let same_year : d.year ≡ e.year = cc in
    let same_month : d.month ≡ e.month = cc in
    let same_day : d.day ≡ e.day = cc in
    let same_weekday : d.weekday ≡ e.weekday = cc in
    let same_place : d.day_of_year ≡ e.day_of_year = cc in
    by_fields d.year d.month d.day d.weekday d.day_of_year e.year e.month e.day e.weekday e.day_of_year
    same_year same_month same_day same_weekday same_place
