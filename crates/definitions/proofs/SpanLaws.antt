-- Years, days, hours and minutes share the minutes of the century, each minute in one of each.
use Rattle.std.proofs.Common.{◌≡◌, ℕ, zero, suc, ◌+◌, ◌-◌, ◌*◌, ◌/◌, ◌<◌, ◌≤◌, ◌⊎◌, inl, inr, sym, ap, ◌∙◌, arith}
use Rattle.std.proofs.lemmas.Bool.{cases_order}
use Rattle.definitions.specs.declared.block.Span.{Span}
use Rattle.definitions.specs.declared.block.Span.TheVariants.{Year, Day, Hour, Minute}
use Rattle.definitions.specs.time.Calendar.{day_at, century_minutes, utc_fields}
use Rattle.definitions.specs.answers.Blocks.{span_end, shorter}
use Rattle.definitions.proofs.CenturyLaws.{year_begin, known, year_of}

-- the number of the year of a minute, from 2000 on
abbrev year_number : ℕ → ℕ
year_number t = (day_at (t / 1440)).year - 2000

year_ends : (t : ℕ) → t < century_minutes → span_end Year t ≡ year_begin (year_number t + 1) * 1440
year_ends t lt = ap (λ n. n * 1440) (known (t / 1440) (omega arith)).year_end

year_bounds : (t : ℕ) → t < century_minutes → (year_begin (year_number t) ≤ t / 1440) × (t / 1440 < year_begin (year_number t + 1))
year_bounds t lt = let k = known (t / 1440) (omega arith) in (k.after, k.before)

-- a minute of the century lies in one of its years
pub in_year : (t : ℕ) → t < century_minutes → (day_at (t / 1440)).year ≤ 2099
in_year t lt = omega (arith, year_bounds t lt)

number_of_year : (i t : ℕ) → t < century_minutes → year_begin i ≤ t / 1440 → t / 1440 < year_begin (i + 1) → year_number t ≡ i
number_of_year i t lt a b = omega (arith, year_of i (t / 1440) (omega arith) a b)

-- a span ends after each of its minutes
pub span_after : (s : Span) (t : ℕ) → t < century_minutes → t < span_end s t
span_after Year t lt = omega (arith, year_ends t lt, year_bounds t lt)
span_after Day t lt = omega arith
span_after Hour t lt = omega arith
span_after Minute t lt = omega arith

-- the minutes of a span end it at one minute
pub same_span : (s : Span) (lo t : ℕ) → t < century_minutes → lo ≤ t → t < span_end s lo → span_end s t ≡ span_end s lo
same_span Year lo t lt le before =
    let early : lo < century_minutes = omega arith in
    let end = year_ends lo early in
    let bounds = year_bounds lo early in
    let i = number_of_year (year_number lo) t lt (omega (arith, bounds, le)) (omega (arith, end, before)) in
    year_ends t lt ∙ ap (λ j. year_begin (j + 1) * 1440) i ∙ sym end
same_span Day lo t lt le before = omega arith
same_span Hour lo t lt le before = omega arith
same_span Minute lo t lt le before = omega arith

-- a year's span ends where the calendar's next year begins
pub year_lasts : (t u : ℕ) → t ≤ u → u < span_end Year t → u < century_minutes → (utc_fields u).year ≡ (utc_fields t).year
year_lasts t u le before lt =
    let early : t < century_minutes = omega (arith, le, lt) in
    let same = number_of_year (year_number t) u lt (omega (arith, year_bounds t early, le)) (omega (arith, year_ends t early, before)) in
    omega (arith, same, (known (t / 1440) (omega (arith, early))).early, (known (u / 1440) (omega (arith, lt))).early)

pub year_passes : (t u : ℕ) → span_end Year t ≤ u → u < century_minutes → (utc_fields t).year < (utc_fields u).year
year_passes t u after lt =
    let early : t < century_minutes = omega (arith, after, lt) in
    omega (arith, year_ends t early, year_bounds u lt, after, (known (t / 1440) (omega (arith, early))).early)

-- a shorter span ends within the longer one
pub within_longer : (s : Span) (t : ℕ) → span_end (shorter s) t ≤ span_end s t
within_longer Year t = omega arith
within_longer Day t = omega arith
within_longer Hour t = omega arith
within_longer Minute t = omega arith

-- some spans from lo on, at most n, reach hi
unfoldable pub Reaches : Span → ℕ → ℕ → ℕ → Type 0
Reaches s zero lo hi = hi ≤ lo
Reaches s (suc n) lo hi = (hi ≤ lo) ⊎ Reaches s n (span_end s lo) hi

-- Where a number grows by one with each span, so many spans reach what lies below some such number.
reach_by : (s : Span) (count : ℕ → ℕ) → ((t : ℕ) → count (span_end s t) ≡ count t + 1) → (hi end : ℕ) → ((t : ℕ) → end ≤ count t → hi ≤ t)
    → (n lo : ℕ) → end ≤ count lo + n → Reaches s n lo hi
unfolding Reaches
reach_by s count step hi end over zero lo le = over lo (omega (arith, le))
reach_by s count step hi end over (suc n) lo le = inr (reach_by s count step hi end over n (span_end s lo) (omega (arith, le, step lo)))

year_step : (i lo hi : ℕ) → lo ≡ year_begin i * 1440 → lo < century_minutes → span_end Year lo ≡ year_begin (i + 1) * 1440
year_step i lo hi at lt = year_ends lo lt ∙ ap (λ j. year_begin (j + 1) * 1440) (number_of_year i lo lt (omega (arith, at)) (omega (arith, at)))

reach_years : (n i lo hi : ℕ) → 100 ≤ i + n → lo ≡ year_begin i * 1440 → hi ≤ century_minutes → Reaches Year n lo hi
unfolding Reaches
reach_years zero i lo hi many at end = omega (arith, many, at, end)
reach_years (suc n) i lo hi many at end = elim (cases_order lo hi) [
  | inl same ↦ inl (omega (arith, same))
  | inr apart ↦ elim apart [
    | inl lt ↦ inr (reach_years n (i + 1) (span_end Year lo) hi (omega (arith, many)) (year_step i lo hi at (omega (arith, lt, end))) end)
    | inr gt ↦ inl (omega (arith, gt))
  ]
]

-- the years of the century, the days of a year, the hours of a day, the minutes of an hour
pub century_reaches : (lo hi : ℕ) → lo < hi → hi ≤ century_minutes → Reaches Year 100 lo hi
unfolding Reaches
century_reaches lo hi lt end =
    inr (reach_years 99 (year_number lo + 1) (span_end Year lo) hi (omega arith) (year_ends lo (omega arith)) end)

pub year_reaches : (lo hi : ℕ) → lo < century_minutes → hi ≤ span_end Year lo → Reaches Day 366 lo hi
year_reaches lo hi lt le =
    reach_by Day (λ t. t / 1440) (λ t. omega arith) hi (lo / 1440 + 366) (λ t far. omega (arith, far, year_ends lo lt, year_bounds lo lt, le)) 366 lo (omega arith)

pub day_reaches : (lo hi : ℕ) → hi ≤ span_end Day lo → Reaches Hour 24 lo hi
day_reaches lo hi le = reach_by Hour (λ t. t / 60) (λ t. omega arith) hi (lo / 60 + 24) (λ t far. omega (arith, far, le)) 24 lo (omega arith)

pub hour_reaches : (lo hi : ℕ) → hi ≤ span_end Hour lo → Reaches Minute 60 lo hi
hour_reaches lo hi le = reach_by Minute (λ t. t) (λ t. omega arith) hi (lo + 60) (λ t far. omega (arith, far, le)) 60 lo (omega arith)
