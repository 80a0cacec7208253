-- European summer time lies between its two changes.
use Rattle.std.proofs.Common.{◌≡◌, ℕ, ◌+◌, ◌-◌, ◌*◌, ◌/◌, ◌%◌, ◌<◌, ◌≤◌, Bool, true, false, ◌&&◌, ◌||◌, ◌==◌, [], ◌∷◌, nat_lt, nat_le, if◌then◌else◌, refl, sym, ap, ◌∙◌, subst, arith, add-one, eqb-true, eq-eqb}
use Rattle.std.proofs.lemmas.Bool.{and_parts, ltb-true, ltb-false, leb-true}
use Rattle.std.proofs.lemmas.Bool.Decides.{nat_tests}
use Rattle.definitions.specs.declared.day.Day.{Day}
use Rattle.definitions.specs.time.Calendar.{day_at, utc_fields, century_minutes}
use Rattle.definitions.specs.time.Summer.{is_last_sunday, season_at, us_begins, us_ends, us_code}
use Rattle.definitions.specs.time.Seasons.{IsTheDay, HasSummer, HasAmericanSummer, american_code, change_on}
use Rattle.definitions.proofs.CenturyLaws.{year_begin, sunday_by, march_day, october_day, day_of_state, us_first, us_last, us_known, known, year_of}

abbrev state : ℕ → Day × Bool
state n = season_at (is_last_sunday 3) (is_last_sunday 10) n

-- the day of a year that passes a test, where the days that pass are those of one number
the_day : (test : Day → Bool) (day : ℕ → ℕ) → ((n : ℕ) → n < 36525 → test (day_at n) ≡ (n == day ((day_at n).year - 2000)))
    → (i : ℕ) → i < 100 → day i < 36525 → year_begin i ≤ day i → day i < year_begin (i + 1) → IsTheDay test (2000 + i) (day i)
the_day test day is i few lt a b =
    let y = year_of i (day i) lt a b in
    let at : (day_at (day i)).year - 2000 ≡ i = omega arith in
    record {
      within = lt;
      year_is = y;
      passes = is (day i) lt ∙ ap (λ j. day i == day j) at ∙ eq-eqb (day i) (day i) refl;
      only = λ m early of_year passes.
          let here : (day_at m).year - 2000 ≡ i = omega arith in
          eqb-true m (day i) (sym (ap (λ j. m == day j) here) ∙ sym (is m early) ∙ passes);
    }

-- the state of a day at 01:00 UTC or later is that of the next day's beginning
abbrev later : ℕ → ℕ → ℕ → Bool
later n m o = if n == m then true else if n == o then false else (nat_lt m n && nat_le n o)

later_is : (n : ℕ) → n < 36525 → (state (n + 1)).1 ≡ later n (march_day ((day_at n).year - 2000)) (october_day ((day_at n).year - 2000))
unfolding season_at
later_is n lt =
    let k = known n lt in
    rw (add-one, day_of_state (is_last_sunday 3) (is_last_sunday 10) march_day october_day n, k.begins_on, k.ends_on, k.season) refl

on-now : (m n o : ℕ) → (nat_lt m n && nat_le n o) ≡ true → (m < n) × (n ≤ o)
on-now m n o e = let b = and_parts _ _ e in (ltb-true _ _ b.0, leb-true _ _ b.1)

on-later : (m n o : ℕ) → m < o → later n m o ≡ true → (m ≤ n) × (n < o)
on-later m n o lt e = grind (arith, nat_tests)

now-on : (m n o : ℕ) → m < n → n ≤ o → (nat_lt m n && nat_le n o) ≡ true
now-on m n o a b = grind (arith, nat_tests)

later-on : (m n o : ℕ) → m ≤ n → n < o → later n m o ≡ true
later-on m n o a b = grind (arith, nat_tests)

-- a minute by its day and hour
abbrev summer : ℕ → Bool → Bool
summer n early = if early then (state n).1 else (state (n + 1)).1

module _ (i t : ℕ) (few : i < 100) (within : t < century_minutes) (of_year : (utc_fields t).year ≡ 2000 + i) where
  place : (day_at (t / 1440)).year - 2000 ≡ i
  place = omega (arith, of_year)

  now : (state (t / 1440)).1 ≡ (nat_lt (march_day i) (t / 1440) && nat_le (t / 1440) (october_day i))
  now =
      (known (t / 1440) (omega arith)).season
      ∙ ap (λ j. nat_lt (march_day j) (t / 1440) && nat_le (t / 1440) (october_day j)) place

  next : (state (t / 1440 + 1)).1 ≡ later (t / 1440) (march_day i) (october_day i)
  next = later_is (t / 1440) (omega arith) ∙ ap (λ j. later (t / 1440) (march_day j) (october_day j)) place

  between : (b : Bool) → nat_lt (t % 1440) 60 ≡ b → summer (t / 1440) b ≡ true → (change_on (march_day i) ≤ t) × (t < change_on (october_day i))
  between true h e =
      let early = ltb-true _ _ h in
      let on = on-now (march_day i) (t / 1440) (october_day i) (sym now ∙ e) in
      (omega (arith, on, early), omega (arith, on, early))
  between false h e =
      let late = ltb-false _ _ h in
      let on = on-later (march_day i) (t / 1440) (october_day i) (omega arith) (sym next ∙ e) in
      (omega (arith, on, late), omega (arith, on, late))

  always : (b : Bool) → nat_lt (t % 1440) 60 ≡ b → change_on (march_day i) ≤ t → t < change_on (october_day i) → summer (t / 1440) b ≡ true
  always true h from to =
      let early = ltb-true _ _ h in
      now ∙ now-on (march_day i) (t / 1440) (october_day i) (omega (arith, early)) (omega (arith, early))
  always false h from to =
      let late = ltb-false _ _ h in
      next ∙ later-on (march_day i) (t / 1440) (october_day i) (omega (arith, late)) (omega (arith, late))

has_summer : (i : ℕ) → i < 100 → HasSummer (2000 + i) (march_day i) (october_day i)
has_summer i few = record {
  begins = the_day (is_last_sunday 3) march_day (λ n lt. (known n lt).begins_on) i few (omega arith) (omega arith) (omega arith);
  ends = the_day (is_last_sunday 10) october_day (λ n lt. (known n lt).ends_on) i few (omega arith) (omega arith) (omega arith);
  between = λ t lt y e. between i t few lt y _ refl e;
  always = λ t lt y from to. always i t few lt y _ refl from to;
}

-- a day of the year 2000 + i: the season as it begins, whether a change stands on it, the season behind that
pub around_european : (i n : ℕ) → n < 36525 → year_begin i ≤ n → n < year_begin (i + 1)
    → (state n).1 ∷ (is_last_sunday 3 (day_at n) || is_last_sunday 10 (day_at n)) ∷ (state (n + 1)).1 ∷ []
    ≡ (nat_lt (march_day i) n && nat_le n (october_day i)) ∷ (n == march_day i || n == october_day i) ∷ later n (march_day i) (october_day i) ∷ []
around_european i n lt from to =
    let k = known n lt in
    let year : (day_at n).year - 2000 ≡ i = omega (arith, year_of i n lt from to) in
    rw (later_is n lt, k.season, k.begins_on, k.ends_on, year) refl

pub european_summer_lies_between_its_changes : (year : ℕ) → 2000 ≤ year → year < 2100 → (march : ℕ) × (october : ℕ) × HasSummer year march october
european_summer_lies_between_its_changes year from to =
    let i = year - 2000 in
    let is : 2000 + (year - 2000) ≡ year = omega arith in
    (march_day i, october_day i, subst (λ y. HasSummer y (march_day i) (october_day i)) is (has_summer i (omega arith)))

-- the American days of a year lie in it, in their order
us_order : (i : ℕ) → i < 100 → (year_begin i ≤ us_first i) × ((us_first i < us_last i) × (us_last i < year_begin (i + 1)))
us_order i few = by_rule (nat_lt i 7)
  where
    by_rule : (b : Bool) → (year_begin i ≤ (if b then sunday_by (year_begin (i + 1) - 269) else sunday_by (year_begin (i + 1) - 293)))
        × (((if b then sunday_by (year_begin (i + 1) - 269) else sunday_by (year_begin (i + 1) - 293)) < (if b then sunday_by (year_begin (i + 1) - 62) else sunday_by (year_begin (i + 1) - 55)))
        × ((if b then sunday_by (year_begin (i + 1) - 62) else sunday_by (year_begin (i + 1) - 55)) < year_begin (i + 1)))
    by_rule true = (omega arith, (omega arith, omega arith))
    by_rule false = (omega arith, (omega arith, omega arith))

coded : (n a b : ℕ) → a < b → (if n == a then 2 else if n == b then 1 else if nat_lt a n && nat_le n b then 3 else 0) ≡ american_code a b n
coded n a b lt = grind (arith, nat_tests)

us_code_is : (i t : ℕ) → i < 100 → t < century_minutes → (utc_fields t).year ≡ 2000 + i → us_code t ≡ american_code (us_first i) (us_last i) (t / 1440)
us_code_is i t few lt of_year =
    let n = t / 1440 in
    let k = us_known (t / 1440) (omega arith) in
    let at : (day_at (t / 1440)).year - 2000 ≡ i = omega (arith, of_year) in
    rw (day_of_state us_begins us_ends us_first us_last (t / 1440), k.begins_on, k.ends_on, k.season, at) (coded (t / 1440) (us_first i) (us_last i) (us_order i few).1.0)

-- WWVB's two bits on the day before, on this day and on the day after, all of them in the year 2000 + i
pub around_american : (i n : ℕ) → i < 100 → year_begin i < n → n + 1 < year_begin (i + 1)
    → us_code ((n - 1) * 1440) ∷ us_code (n * 1440) ∷ us_code ((n + 1) * 1440) ∷ []
    ≡ american_code (us_first i) (us_last i) (n - 1) ∷ american_code (us_first i) (us_last i) n ∷ american_code (us_first i) (us_last i) (n + 1) ∷ []
around_american i n few from to =
    rw (on (n - 1) (omega arith) (omega arith), on n (omega arith) (omega arith), on (n + 1) (omega arith) (omega arith)) refl
  where
    on : (m : ℕ) → year_begin i ≤ m → m < year_begin (i + 1) → us_code (m * 1440) ≡ american_code (us_first i) (us_last i) m
    on m first last =
        let there : m * 1440 / 1440 ≡ m = omega arith in
        let year : (day_at (m * 1440 / 1440)).year ≡ 2000 + i = rw there (year_of i m (omega arith) first last) in
        us_code_is i (m * 1440) few (omega arith) year ∙ ap (american_code (us_first i) (us_last i)) there

us_summer : (i : ℕ) → i < 100 → HasAmericanSummer (2000 + i) (us_first i) (us_last i)
us_summer i few =
    let order = us_order i few in
    record {
      begins = the_day us_begins us_first (λ n lt. (us_known n lt).begins_on) i few (omega (arith, order)) order.0 (omega (arith, order));
      ends = the_day us_ends us_last (λ n lt. (us_known n lt).ends_on) i few (omega (arith, order)) (omega (arith, order)) order.1.1;
      in_order = order.1.0;
      coded = λ t lt y. us_code_is i t few lt y;
    }

pub american_summer_lies_between_its_changes : (year : ℕ) → 2000 ≤ year → year < 2100 → (first : ℕ) × (last : ℕ) × HasAmericanSummer year first last
american_summer_lies_between_its_changes year from to =
    let i = year - 2000 in
    let is : 2000 + (year - 2000) ≡ year = omega arith in
    (us_first i, us_last i, subst (λ y. HasAmericanSummer y (us_first i) (us_last i)) is (us_summer i (omega arith)))
