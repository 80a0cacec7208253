-- Different days have different dates, and words say one thing.
use Rattle.std.proofs.Common.{◌≡◌, ℕ, zero, suc, ◌+◌, ◌-◌, ◌*◌, ◌%◌, ◌<◌, ◌≤◌, inl, inr, Bool, true, false, nat_lt, List, get_or, refl, sym, ap, ◌∙◌, arith, add-zero, add-suc}
use Rattle.std.proofs.lemmas.Bool.{ltb-true, cases_order}
use Rattle.std.proofs.lemmas.Bool.Decides.{nat_tests}
use Rattle.definitions.specs.declared.day.Day.{Day}
use Rattle.definitions.specs.time.Calendar.{day_at, next_day, month_length, century_days}
use Rattle.definitions.specs.time.Spelling.{date_text}
use Rattle.definitions.specs.time.Spelling.{day_text}
use Rattle.definitions.proofs.LastDay.{year_behind_it}

-- years don't fall
year_step : (d : Day) → d.year ≤ (next_day d).year
year_step d = grind (arith, nat_tests)

pub years_rise : (n k : ℕ) → (day_at n).year ≤ (day_at (n + k)).year
unfolding day_at
years_rise n zero = rw add-zero (omega arith)
years_rise n (suc k) = rw add-suc (omega (arith, years_rise n k, year_step (day_at (n + k))))

pub early_year : (n : ℕ) → n ≤ 36525 → (day_at n).year ≤ 2100
early_year n h =
    let there : n + (36525 - n) ≡ 36525 = omega arith in
    omega (arith, years_rise n (36525 - n), ap (λ m. (day_at m).year) there, year_behind_it)

month_length_bound : (y m : ℕ) → month_length y m ≤ 31
month_length_bound y m = grind (arith, nat_tests)

-- a month and a day of the month are of two digits
record IsDated (d : Day) : Type 0 where
  pub month : d.month ≤ 12
  pub day : d.day ≤ 31

-- a number that grows from day to day
abbrev code : Day → ℕ
code d = (d.year * 13 + d.month) * 32 + d.day

-- the day after has a greater number
abbrev Steps : Day → Day → Type 0
Steps d e = IsDated e × (code d < code e)

step : (d : Day) → IsDated d → Steps d (next_day d)
step d is = by_day (nat_lt d.day (month_length d.year d.month)) refl
  where
    by_month : nat_lt d.day (month_length d.year d.month) ≡ false → (b : Bool) → nat_lt d.month 12 ≡ b → Steps d (next_day d)
    by_month over true e =
        let lt = ltb-true _ _ e in
        rw (over, e) (record { month = omega arith; day = omega arith }, omega (arith, is.day))
    by_month over false e = rw (over, e) (record { month = omega arith; day = omega arith }, omega (arith, is.day, is.month))

    by_day : (b : Bool) → nat_lt d.day (month_length d.year d.month) ≡ b → Steps d (next_day d)
    by_day true e =
        let lt = ltb-true d.day (month_length d.year d.month) e in
        let long = month_length_bound d.year d.month in
        rw e (record { month = is.month; day = omega (arith, lt, long) }, omega arith)
    by_day false e = by_month e (nat_lt d.month 12) refl

dated : (n : ℕ) → IsDated (day_at n)
unfolding day_at
dated zero = record { month = omega arith; day = omega arith }
dated (suc n) = (step (day_at n) (dated n)).0

code_step : (n : ℕ) → code (day_at n) < code (day_at (suc n))
unfolding day_at
code_step n = (step (day_at n) (dated n)).1

codes_rise : (n k : ℕ) → code (day_at n) < code (day_at (suc (n + k)))
codes_rise n zero = rw add-zero (code_step n)
codes_rise n (suc k) = rw add-suc (omega (arith, codes_rise n k, code_step (suc (n + k))))

later_code : (m n : ℕ) → m < n → code (day_at m) < code (day_at n)
later_code m n lt =
    let there : suc (m + (n - suc m)) ≡ n = omega arith in
    omega (arith, codes_rise m (n - suc m), ap (λ k. code (day_at k)) there)

-- days of one date are one
same_code : (m n : ℕ) → code (day_at m) ≡ code (day_at n) → m ≡ n
same_code m n e =
    elim (cases_order m n) [
      | inl same ↦ same
      | inr apart ↦ elim apart [
        | inl lt ↦ absurd (omega (arith, e, later_code m n lt))
        | inr gt ↦ absurd (omega (arith, e, later_code n m gt))
      ]
    ]

-- The numbers of a date come back from its text.
abbrev digit_at : List ℕ → ℕ → ℕ
digit_at text i = get_or text i 0 % 16

abbrev year_in : List ℕ → ℕ
year_in text = 1000 * digit_at text 0 + 100 * digit_at text 1 + (10 * digit_at text 2 + digit_at text 3)

abbrev month_in : List ℕ → ℕ
month_in text = 10 * digit_at text 5 + digit_at text 6

abbrev day_in : List ℕ → ℕ
day_in text = 10 * digit_at text 8 + digit_at text 9

year_of_text : (y m d : ℕ) → y < 10000 → year_in (date_text y m d) ≡ y
year_of_text y m d small = omega arith

month_of_text : (y m d : ℕ) → m < 100 → month_in (date_text y m d) ≡ m
month_of_text y m d small = omega arith

day_of_text : (y m d : ℕ) → d < 100 → day_in (date_text y m d) ≡ d
day_of_text y m d small = omega arith

-- dates of one text have the same numbers
pub same_date : (y m d y' m' d' : ℕ) → y < 10000 → m < 100 → d < 100 → y' < 10000 → m' < 100 → d' < 100
    → date_text y m d ≡ date_text y' m' d' → (y ≡ y') × (m ≡ m') × (d ≡ d')
same_date y m d y' m' d' a b c a' b' c' e = (
  sym (year_of_text y m d a) ∙ ap year_in e ∙ year_of_text y' m' d' a',
  sym (month_of_text y m d b) ∙ ap month_in e ∙ month_of_text y' m' d' b',
  sym (day_of_text y m d c) ∙ ap day_in e ∙ day_of_text y' m' d' c',
)

-- different days of the century have different dates
pub days_differ : (m n : ℕ) → m < century_days → n < century_days → day_text (day_at m) ≡ day_text (day_at n) → m ≡ n
days_differ m n early also e =
    let d = dated m in
    let f = dated n in
    let y = early_year m (omega arith) in
    let z = early_year n (omega arith) in
    let same = same_date _ _ _ _ _ _ (omega (arith, y)) (omega (arith, d.month)) (omega (arith, d.day)) (omega (arith, z)) (omega (arith, f.month)) (omega (arith, f.day)) e in
    same_code m n (omega (arith, same))
