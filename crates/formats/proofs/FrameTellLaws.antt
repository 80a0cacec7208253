-- The elements of a second tell that second.
use Rattle.std.proofs.Common.{◌≡◌, ℕ, zero, suc, ◌+◌, ◌-◌, ◌*◌, ◌/◌, ◌%◌, ◌<◌, ◌≤◌, ◌⊎◌, inl, inr, Bool, true, false, ◌&&◌, nat_lt, if◌then◌else◌, length, Option, Some, None, refl, sym, ap, ◌∙◌, subst, arith}
use Rattle.std.specs.List.{All}
use Rattle.std.specs.Option.{option_map_or}
use Rattle.std.proofs.lemmas.List.FromFn.{get_or-map-range_with_len, length-map-range_with_len}
use Rattle.definitions.specs.declared.day.Day.{Day}
use Rattle.definitions.specs.declared.fields.Fields.{Fields}
use Rattle.definitions.specs.time.Calendar.{day_at, is_leap_end, minutes_per_day, month_length, next_day, utc_fields}
use Rattle.definitions.specs.codes.Vocabulary.{carried_bit, is_one_of, weight_of, weight_of_ones}
use Rattle.definitions.proofs.CheckLaws.{all_below}
use Rattle.definitions.proofs.CenturyLaws.{known, year_begin}
use Rattle.definitions.proofs.SetLaws.{IsBit, carried, either}
use Rattle.definitions.proofs.WeightLaws.{adds_up}
use Rattle.formats.specs.declared.frame.TheConstants.{ELEMENTS}
use Rattle.formats.specs.Frames.{binary_bit, binary_weights, day_weights, decimal_fields, element, elements, elements_on, hour_weights, markers, minute_weights, new_year, second_weights, seconds_before, told, told_minute, told_second, year_weights}
use Rattle.formats.specs.FrameTexts.{IsElement, IsSecond}

-- a day and the one after: in the same year, or in the next
abbrev Steps : Day → Day → Type 0
Steps d e = ((e.year ≡ d.year) × (e.day_of_year ≡ d.day_of_year + 1)) ⊎ ((e.year ≡ d.year + 1) × (e.day_of_year ≡ 1))

steps : (d : Day) → Steps d (next_day d)
steps d = by_day (nat_lt d.day (month_length d.year d.month)) refl
  where
    by_month : nat_lt d.day (month_length d.year d.month) ≡ false → (b : Bool) → nat_lt d.month 12 ≡ b → Steps d (next_day d)
    by_month over true e = rw (over, e) (inl (refl, refl))
    by_month over false e = rw (over, e) (inr (refl, refl))

    by_day : (b : Bool) → nat_lt d.day (month_length d.year d.month) ≡ b → Steps d (next_day d)
    by_day true e = rw e (inl (refl, refl))
    by_day false e = by_month e (nat_lt d.month 12) refl

-- how many days come before a day, by its year and its day of the year
abbrev IsPlaced : ℕ → Day → Type 0
IsPlaced n d = suc n ≡ year_begin (d.year - 2000) + d.day_of_year

placed_next : (n : ℕ) (d e : Day) → IsPlaced n d → Steps d e → 2000 ≤ d.year → n < year_begin (d.year - 2000 + 1) → year_begin (e.year - 2000) ≤ suc n
    → IsPlaced (suc n) e
placed_next n d e here (inl s) early before after = omega (arith, here, s.0, s.1)
placed_next n d e here (inr s) early before after =
    let i : e.year - 2000 ≡ d.year - 2000 + 1 = omega (arith, s.0, early) in
    let begins : year_begin (e.year - 2000) ≡ year_begin (d.year - 2000 + 1) = ap year_begin i in
    omega (arith, s.1, before, after, begins)

pub placed : (n : ℕ) → n < 36525 → IsPlaced n (day_at n)
unfolding day_at
placed zero lt = refl
placed (suc n) lt =
    let k = known n (omega (arith, lt)) in
    let l = known (suc n) lt in
    placed_next n (day_at n) (next_day (day_at n)) (placed n (omega (arith, lt))) (steps (day_at n)) k.early k.before l.after

-- Each field is told: the sum of the weights of its ones is what the weights of its number add up to.
module _ (f : Fields) (s : ℕ) where
  second_told : told second_weights (elements_on f s) ≡ weight_of_ones (second_weights, s)
  second_told = refl

  minute_told : told minute_weights (elements_on f s) ≡ weight_of_ones (minute_weights, f.minute)
  minute_told = refl

  hour_told : told hour_weights (elements_on f s) ≡ weight_of_ones (hour_weights, f.hour)
  hour_told = refl

  day_told : told day_weights (elements_on f s) ≡ weight_of_ones (day_weights, f.day_of_year)
  day_told = refl

  year_told : told year_weights (elements_on f s) ≡ weight_of_ones (year_weights, f.year % 100)
  year_told = refl

few_seconds : (s : ℕ) (b : Bool) → s < (if true && b then 61 else 60) → s < 61
few_seconds s true lt = lt
few_seconds s false lt = omega (arith, lt)

pub second_is_told : (t s : ℕ) → IsSecond t s → told_second (elements t s) ≡ s
unfolding all_below
second_is_told t s is =
    second_told (utc_fields t) s ∙ adds_up second_weights 80 refl s (omega (arith, few_seconds s (is_leap_end t) is.1))

-- the minute, from its day's number and its time of day
minute_from : (t n y d h m : ℕ) → n ≡ t / 1440 → suc n ≡ new_year y + d → h ≡ t % 1440 / 60 → m ≡ t % 60 → 1440 * (new_year y + d - 1) + 60 * h + m ≡ t
minute_from t n y d h m is place hour minute =
    let day : new_year y + d - 1 ≡ t / 1440 = omega (arith, is, place) in
    omega (arith, day, hour, minute)

pub minute_is_told : (t s : ℕ) → IsSecond t s → told_minute (elements t s) ≡ t
unfolding all_below
minute_is_told t s is =
    let f = utc_fields t in
    let n = t / minutes_per_day in
    let lt : n < 36525 = omega (arith, is.0) in
    let k = known n lt in
    let place = placed n lt in
    let late : (day_at n).year - 2000 < 100 = omega (arith, k.after, lt) in
    let year : (day_at n).year % 100 ≡ (day_at n).year - 2000 = omega (arith, k.early, late) in
    let y : told year_weights (elements t s) ≡ (day_at n).year - 2000 = year_told f s ∙ (adds_up year_weights 100 refl ((day_at n).year % 100) (omega arith) ∙ year) in
    let d : told day_weights (elements t s) ≡ (day_at n).day_of_year = day_told f s ∙ adds_up day_weights 400 refl (day_at n).day_of_year (omega (arith, place, k.before)) in
    let h : told hour_weights (elements t s) ≡ t % minutes_per_day / 60 = hour_told f s ∙ adds_up hour_weights 24 refl f.hour (omega arith) in
    let m : told minute_weights (elements t s) ≡ t % 60 = minute_told f s ∙ adds_up minute_weights 60 refl f.minute (omega arith) in
    minute_from t n (told year_weights (elements t s)) (told day_weights (elements t s)) (told hour_weights (elements t s)) (told minute_weights (elements t s))
    refl (place ∙ sym (ap (λ i. new_year i + told day_weights (elements t s)) y ∙ ap (λ k. new_year ((day_at n).year - 2000) + k) d)) h m

-- different seconds have different elements
pub one_second : (t s u r : ℕ) → IsSecond t s → IsSecond u r → elements t s ≡ elements u r → (t ≡ u) × (s ≡ r)
one_second t s u r is also e = (
  sym (minute_is_told t s is) ∙ (ap told_minute e ∙ minute_is_told u r also),
  sym (second_is_told t s is) ∙ (ap told_second e ∙ second_is_told u r also),
)

-- each element is a zero, a one or a marker, and there are a hundred
pub elements_long : (t s : ℕ) → length (elements t s) ≡ ELEMENTS
elements_long t s = length-map-range_with_len (element (utc_fields t) s) 0 ELEMENTS

bit_small : (n : ℕ) → n % 2 < 2
bit_small n = omega arith

bit_or : (g : ℕ → ℕ) (o : Option ℕ) (d : ℕ) → ((w : ℕ) → g w < 2) → d < 2 → option_map_or g o d < 2
bit_or g None d p q = q
bit_or g (Some w) d p q = p w

pub an_element : (f : Fields) (s i : ℕ) → IsElement (element f s i)
unfolding IsBit
an_element f s i =
    either IsElement (is_one_of markers i) _ _ (omega arith)
    (omega (arith, bit_or (binary_bit (seconds_before f s)) (weight_of binary_weights i) (carried_bit (decimal_fields f s) i) (λ w. bit_small (seconds_before f s / w)) (carried (decimal_fields f s) i)))

pub are_elements : (t s : ℕ) → All IsElement (elements t s)
are_elements t s = λ k d h.
    subst IsElement (sym (get_or-map-range_with_len (element (utc_fields t) s) 0 ELEMENTS k k d (subst (λ n. k < n) (elements_long t s) h) (omega arith)))
    (an_element (utc_fields t) s k)
