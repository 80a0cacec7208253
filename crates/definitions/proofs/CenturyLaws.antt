-- The days of the century by their years and by a season, checked one by one.
use Rattle.std.proofs.Common.{◌≡◌, ℕ, zero, suc, ◌+◌, ◌-◌, ◌*◌, ◌/◌, ◌%◌, ◌<◌, ◌≤◌, Bool, true, false, ◌&&◌, ◌==◌, nat_lt, nat_le, if◌then◌else◌, refl, sym, ap, subst, arith, eqb-true}
use Rattle.std.proofs.lemmas.Bool.{and_parts, ltb-true, leb-true}
use Rattle.definitions.specs.declared.day.Day.{Day}
use Rattle.definitions.specs.time.Calendar.{first_day, next_day, day_at, is_leap_year}
use Rattle.definitions.specs.time.Summer.{is_last_sunday, season_at, us_begins, us_ends}

-- the number of 1 January of the year 2000 + i
abbrev pub year_begin : ℕ → ℕ
year_begin i = 365 * i + (i + 3) / 4

-- the last Sunday up to the day n
abbrev pub sunday_by : ℕ → ℕ
sunday_by n = n - (n + 6) % 7

same : Bool → Bool → Bool
same true b = b
same false true = false
same false false = true

one : (a b : Bool) → same a b ≡ true → a ≡ b
unfolding same
one true b e = sym e
one false true e = absurd cc
one false false e = refl

-- the day after the last one of a day's year
abbrev pub year_after : ℕ → Day → ℕ
year_after n d = n + ((if is_leap_year d.year then 366 else 365) - d.day_of_year) + 1

-- a season, and the days on which it begins and ends in the year 2000 + i
module _ (begins ends : Day → Bool) (first last : ℕ → ℕ) where
  abbrev pub state : ℕ → Day × Bool
  state n = season_at begins ends n

  -- the state of a day is as its year's beginnings and changes say
  abbrev fine : ℕ → Day × Bool → Bool
  fine n s =
      let i = s.0.year - 2000 in
      nat_le 2000 s.0.year && (nat_le (year_begin i) n && (nat_lt n (year_begin (i + 1)) && ((year_after n s.0 == year_begin (i + 1))
      && (same (begins s.0) (n == first i) && (same (ends s.0) (n == last i)
      && same s.1 (nat_lt (first i) n && nat_le n (last i)))))))

  -- the state of the day n, and whether all days before it are fine
  walk : ℕ → (Day × Bool) × Bool
  walk zero = ((first_day, false), true)
  walk (suc n) =
      let w = walk n in
      let s = w.0 in
      ((next_day s.0, if begins s.0 then true else if ends s.0 then false else s.1), w.1 && fine n s)

  walk_state : (n : ℕ) → (walk n).0 ≡ state n
  unfolding walk season_at
  walk_state zero = refl
  walk_state (suc n) = rw (walk_state n) refl

  pub day_of_state : (n : ℕ) → (state n).0 ≡ day_at n
  unfolding season_at day_at
  day_of_state zero = refl
  day_of_state (suc n) = ap next_day (day_of_state n)

  fine_before : (n k : ℕ) → (walk (suc n + k)).1 ≡ true → fine n (state n) ≡ true
  unfolding walk
  fine_before n zero e =
      let here : suc n + 0 ≡ suc n = omega arith in
      let all : (walk (suc n)).1 ≡ true = subst (λ m. (walk m).1 ≡ true) here e in
      let latest = (and_parts ((walk n).1) (fine n (walk n).0) all).1 in
      subst (λ s. fine n s ≡ true) (walk_state n) latest
  fine_before n (suc k) e =
      let here : suc n + suc k ≡ suc (suc n + k) = omega arith in
      let all : (walk (suc (suc n + k))).1 ≡ true = subst (λ m. (walk m).1 ≡ true) here e in
      fine_before n k (and_parts ((walk (suc n + k)).1) (fine (suc n + k) (walk (suc n + k)).0) all).0

  -- what is known of a day of the century and of the season as it begins
  pub record IsKnown (n : ℕ) (d : Day) (b : Bool) : Type 0 where
    pub early : 2000 ≤ d.year
    pub after : year_begin (d.year - 2000) ≤ n
    pub before : n < year_begin (d.year - 2000 + 1)
    pub year_end : year_after n d ≡ year_begin (d.year - 2000 + 1)
    pub begins_on : begins d ≡ (n == first (d.year - 2000))
    pub ends_on : ends d ≡ (n == last (d.year - 2000))
    pub season : b ≡ (nat_lt (first (d.year - 2000)) n && nat_le n (last (d.year - 2000)))

  known_of : (n : ℕ) (d : Day) (b : Bool) → fine n (d, b) ≡ true → IsKnown n d b
  known_of n d b e =
      let one_on = and_parts _ _ e in
      let two_on = and_parts _ _ one_on.1 in
      let three_on = and_parts _ _ two_on.1 in
      let four_on = and_parts _ _ three_on.1 in
      let five_on = and_parts _ _ four_on.1 in
      let six_on = and_parts _ _ five_on.1 in
      record {
        early = leb-true _ _ one_on.0;
        after = leb-true _ _ two_on.0;
        before = ltb-true _ _ three_on.0;
        year_end = eqb-true _ _ four_on.0;
        begins_on = one _ _ five_on.0;
        ends_on = one _ _ six_on.0;
        season = one _ _ six_on.1;
      }

  known_by : (walk 36525).1 ≡ true → (n : ℕ) → n < 36525 → IsKnown n (day_at n) (state n).1
  known_by checked n lt =
      let there : suc n + (36525 - suc n) ≡ 36525 = omega arith in
      let f = fine_before n (36525 - suc n) (subst (λ m. (walk m).1 ≡ true) (sym there) checked) in
      subst (λ d. IsKnown n d (state n).1) (day_of_state n) (known_of n (state n).0 (state n).1 f)

-- Europe: the last Sundays of March and October, which end 276 and 62 days before the next year
abbrev pub march_day : ℕ → ℕ
march_day i = sunday_by (year_begin (i + 1) - 276)

abbrev pub october_day : ℕ → ℕ
october_day i = sunday_by (year_begin (i + 1) - 62)

checked : (walk (is_last_sunday 3) (is_last_sunday 10) march_day october_day 36525).1 ≡ true
unfolding walk same
checked = refl

pub known : (n : ℕ) → n < 36525 → IsKnown (is_last_sunday 3) (is_last_sunday 10) march_day october_day n (day_at n) (state (is_last_sunday 3) (is_last_sunday 10) march_day october_day n).1
known n lt = known_by (is_last_sunday 3) (is_last_sunday 10) march_day october_day checked n lt

-- The United States: from the seventh year on the second Sunday of March and the first of November, before it the first
-- of April and the last of October. These are the last Sundays up to 14 March, 7 November and 7 April.
abbrev pub us_first : ℕ → ℕ
us_first i = if nat_lt i 7 then sunday_by (year_begin (i + 1) - 269) else sunday_by (year_begin (i + 1) - 293)

abbrev pub us_last : ℕ → ℕ
us_last i = if nat_lt i 7 then sunday_by (year_begin (i + 1) - 62) else sunday_by (year_begin (i + 1) - 55)

us_checked : (walk us_begins us_ends us_first us_last 36525).1 ≡ true
unfolding walk same
us_checked = refl

pub us_known : (n : ℕ) → n < 36525 → IsKnown us_begins us_ends us_first us_last n (day_at n) (state us_begins us_ends us_first us_last n).1
us_known n lt = known_by us_begins us_ends us_first us_last us_checked n lt

-- a day lies in one year
pub one_year : (i j n : ℕ) → year_begin i ≤ n → n < year_begin (i + 1) → year_begin j ≤ n → n < year_begin (j + 1) → i ≡ j
one_year i j n a b c d = omega arith

pub year_of : (i n : ℕ) → n < 36525 → year_begin i ≤ n → n < year_begin (i + 1) → (day_at n).year ≡ 2000 + i
year_of i n lt a b =
    let k = known n lt in
    let is = one_year i ((day_at n).year - 2000) n a b k.after k.before in
    omega (arith, is, k.early)
