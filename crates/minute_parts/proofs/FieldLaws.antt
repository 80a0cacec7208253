-- Each second that the date tells is told by one of its fields, but for a parity of several. So what a date tells is what some
-- date tells, with what each field changes in it.
use Rattle.std.proofs.Common.{◌≡◌, ℕ, zero, suc, ◌+◌, ◌-◌, ◌*◌, ◌/◌, ◌%◌, ◌<◌, ◌≤◌, ◌⊎◌, inl, inr, Bool, true, false, ◌==◌, ◌||◌, if◌then◌else◌, List, [], ◌∷◌, ◌++◌, length, map, get_or, refl, sym, ap, ◌∙◌, subst, arith, bit_xor}
use Rattle.std.specs.List.{range_with_len}
use Rattle.std.proofs.Math.ListN.{get_or-append}
use Rattle.std.proofs.lemmas.Bool.{cases_lt, eqb-true, eq-eqb, ne_eqb}
use Rattle.std.proofs.lemmas.List.{get_or_default, get_or_push, length_push}
use Rattle.std.proofs.lemmas.Nat.{xor_comm}
use Rattle.std.proofs.lemmas.List.FromFn.{get_or-map-range_with_len}
use lib.Bits.{xor_assoc, xor_self, xor_zero_l, xor_zero_r}
use Rattle.signal_base.specs.declared.station.Station.{Station}
use Rattle.signal_base.specs.declared.station.Station.TheVariants.{Dcf77, Msf, Wwvb, Jjy}
use Rattle.definitions.specs.codes.Vocabulary.{is_within, ones, only}
use Rattle.definitions.specs.codes.Dcf77 as dcf
use Rattle.definitions.specs.codes.Msf as msf
use Rattle.definitions.specs.declared.day.Day.{Day}
use Rattle.definitions.specs.time.Calendar.{first_day}
use Rattle.minute_parts.specs.declared.date_rows.DateField.{DateField}
use Rattle.minute_parts.specs.declared.date_rows.DateField.TheVariants.{DayOfMonth, DayOfYear, Flags, Month, Weekday, Year}
use Rattle.minute_parts.specs.declared.dates.DateFacts.{DateFacts}
use Rattle.minute_parts.specs.Dates.{AreInRange, date_part, date_set, some_date}
use Rattle.minute_parts.specs.DateRows.{AreRows, changed, count_of, flag, flags_of, on_day, value_of, with_flags, with_value}
use Rattle.minute_parts.specs.Times.{entry}
use Rattle.minute_parts.proofs.FactLaws.{in_date_part}
use Rattle.minute_parts.proofs.PieceLaws.{same_facts}

-- the field that a second tells
abbrev field_at : Station → ℕ → DateField
field_at Dcf77 s =
    if is_within 36 41 s then DayOfMonth
    else if is_within 42 44 s then Weekday
    else if is_within 45 49 s then Month
    else if is_within 50 57 s then Year
    else Flags
field_at Msf s =
    if is_within 17 24 s || (s == 54) then Year
    else if is_within 25 29 s then Month
    else if is_within 30 35 s then DayOfMonth
    else if is_within 36 38 s || (s == 56) then Weekday
    else Flags
field_at Wwvb s = if is_within 22 33 s then DayOfYear else if is_within 45 55 s then Year else Flags
field_at Jjy s =
    if is_within 22 33 s then DayOfYear
    else if is_within 41 48 s then Year
    else if is_within 50 52 s then Weekday
    else Flags

-- a second that tells a parity of several
abbrev is_shared : Station → ℕ → Bool
is_shared Dcf77 s = s == 58
is_shared Msf s = s == 55
is_shared Wwvb s = false
is_shared Jjy s = false

-- some date with one field of another
abbrev alone : DateField → DateFacts → DateFacts
alone Flags f = record f { day = first_day }
alone Year f = on_day (record first_day { year = f.day.year })
alone Month f = on_day (record first_day { month = f.day.month })
alone DayOfMonth f = on_day (record first_day { day = f.day.day })
alone Weekday f = on_day (record first_day { weekday = f.day.weekday })
alone DayOfYear f = on_day (record first_day { day_of_year = f.day.day_of_year })

abbrev number : DateField → ℕ
number Flags = 0
number Year = 1
number Month = 2
number DayOfMonth = 3
number Weekday = 4
number DayOfYear = 5

-- whether a second tells of the field
abbrev tells : DateField → Station → ℕ → Bool
tells field station s = is_shared station s || (number field == number (field_at station s))

-- a second by all facts, or by the one field that it tells; and by a field that it doesn't tell, or by none
abbrev by_all : Station → DateFacts → ℕ → ℕ
by_all station f s = if is_shared station s then 0 else date_set station f s

abbrev by_its_field : Station → DateFacts → ℕ → ℕ
by_its_field station f s = if is_shared station s then 0 else date_set station (alone (field_at station s) f) s

abbrev by_other : DateField → Station → DateFacts → ℕ → ℕ
by_other field station f s = if tells field station s then 0 else date_set station (alone field f) s

abbrev by_none : DateField → Station → ℕ → ℕ
by_none field station s = if tells field station s then 0 else date_set station some_date s

abbrev sixty : (ℕ → ℕ) → List ℕ
sixty set = map set (range_with_len 0 60)

each_of_its_field : (station : Station) (f : DateFacts) → sixty (by_all station f) ≡ sixty (by_its_field station f)
each_of_its_field Dcf77 f = refl
each_of_its_field Msf f = refl
each_of_its_field Wwvb f = refl
each_of_its_field Jjy f = refl

each_of_no_other : (field : DateField) (station : Station) (f : DateFacts) → sixty (by_other field station f) ≡ sixty (by_none field station)
each_of_no_other Flags Dcf77 f = refl
each_of_no_other Year Dcf77 f = refl
each_of_no_other Month Dcf77 f = refl
each_of_no_other DayOfMonth Dcf77 f = refl
each_of_no_other Weekday Dcf77 f = refl
each_of_no_other DayOfYear Dcf77 f = refl
each_of_no_other Flags Msf f = refl
each_of_no_other Year Msf f = refl
each_of_no_other Month Msf f = refl
each_of_no_other DayOfMonth Msf f = refl
each_of_no_other Weekday Msf f = refl
each_of_no_other DayOfYear Msf f = refl
each_of_no_other Flags Wwvb f = refl
each_of_no_other Year Wwvb f = refl
each_of_no_other Month Wwvb f = refl
each_of_no_other DayOfMonth Wwvb f = refl
each_of_no_other Weekday Wwvb f = refl
each_of_no_other DayOfYear Wwvb f = refl
each_of_no_other Flags Jjy f = refl
each_of_no_other Year Jjy f = refl
each_of_no_other Month Jjy f = refl
each_of_no_other DayOfMonth Jjy f = refl
each_of_no_other Weekday Jjy f = refl
each_of_no_other DayOfYear Jjy f = refl

-- one second of these
take_out : (a b : ℕ → ℕ) (s : ℕ) → s < 60 → sixty a ≡ sixty b → a s ≡ b s
take_out a b s lt same =
    sym (get_or-map-range_with_len a 0 60 s s 0 lt (omega arith))
    ∙ ap (λ xs. get_or xs s 0) same
    ∙ get_or-map-range_with_len b 0 60 s s 0 lt (omega arith)

unless : (test : Bool) (a b : ℕ) → test ≡ false → ◌≡◌ {A = ℕ} (if test then 0 else a) (if test then 0 else b) → a ≡ b
unless true a b e same = absurd cc
unless false a b e same = same

its_field : (station : Station) (f : DateFacts) (s : ℕ) → s < 60 → is_shared station s ≡ false
    → date_set station f s ≡ date_set station (alone (field_at station s) f) s
its_field station f s lt single =
    unless (is_shared station s) _ _ single (take_out (by_all station f) (by_its_field station f) s lt (each_of_its_field station f))

no_other : (field : DateField) (station : Station) (f : DateFacts) (s : ℕ) → s < 60 → tells field station s ≡ false
    → date_set station (alone field f) s ≡ date_set station some_date s
no_other field station f s lt untold =
    unless (tells field station s) _ _ untold (take_out (by_other field station f) (by_none field station) s lt (each_of_no_other field station f))

-- What the fields change, one after the other.
abbrev laid : ℕ → (DateField → ℕ) → ℕ
laid b g =
    bit_xor (bit_xor (bit_xor (bit_xor (bit_xor (bit_xor b (bit_xor (g Flags) b)) (bit_xor (g Year) b)) (bit_xor (g Month) b)) (bit_xor (g DayOfMonth) b))
    (bit_xor (g Weekday) b)) (bit_xor (g DayOfYear) b)

none : (x a b : ℕ) → a ≡ b → bit_xor x (bit_xor a b) ≡ x
none x a b same = rw (same, xor_self b) (xor_zero_r x)

back : (x b v : ℕ) → x ≡ b → bit_xor x (bit_xor v b) ≡ v
back x b v same =
    rw same (ap (bit_xor b) (xor_comm v b) ∙ sym (xor_assoc b b v) ∙ ap (λ y. bit_xor y v) (xor_self b) ∙ xor_zero_l v)

-- where the other fields change nothing
one_changes : (field : DateField) (b : ℕ) (g : DateField → ℕ) → ((other : DateField) → (number other == number field) ≡ false → g other ≡ b)
    → laid b g ≡ g field
one_changes Flags b g others =
    none _ _ b (others DayOfYear refl) ∙ none _ _ b (others Weekday refl) ∙ none _ _ b (others DayOfMonth refl) ∙ none _ _ b (others Month refl)
    ∙ none _ _ b (others Year refl) ∙ back b b (g Flags) refl
one_changes Year b g others =
    none _ _ b (others DayOfYear refl) ∙ none _ _ b (others Weekday refl) ∙ none _ _ b (others DayOfMonth refl) ∙ none _ _ b (others Month refl)
    ∙ back _ b (g Year) (none b _ b (others Flags refl))
one_changes Month b g others =
    none _ _ b (others DayOfYear refl) ∙ none _ _ b (others Weekday refl) ∙ none _ _ b (others DayOfMonth refl)
    ∙ back _ b (g Month) (none _ _ b (others Year refl) ∙ none b _ b (others Flags refl))
one_changes DayOfMonth b g others =
    none _ _ b (others DayOfYear refl) ∙ none _ _ b (others Weekday refl)
    ∙ back _ b (g DayOfMonth) (none _ _ b (others Month refl) ∙ none _ _ b (others Year refl) ∙ none b _ b (others Flags refl))
one_changes Weekday b g others =
    none _ _ b (others DayOfYear refl)
    ∙ back _ b (g Weekday)
    (none _ _ b (others DayOfMonth refl) ∙ none _ _ b (others Month refl) ∙ none _ _ b (others Year refl) ∙ none b _ b (others Flags refl))
one_changes DayOfYear b g others =
    back _ b (g DayOfYear)
    (none _ _ b (others Weekday refl) ∙ none _ _ b (others DayOfMonth refl) ∙ none _ _ b (others Month refl) ∙ none _ _ b (others Year refl)
    ∙ none b _ b (others Flags refl))

-- A parity of several fields is changed by each of them.
abbrev even : ℕ → ℕ
even n = only (n % 2)

flip_by : (a b c : ℕ) → a < 2 → b < 2 → c ≡ (a + b) % 2 → bit_xor (only a) (bit_xor (only b) 1) ≡ only c
flip_by zero zero c la lb e = rw e refl
flip_by zero (suc zero) c la lb e = rw e refl
flip_by zero (suc (suc b)) c la lb e = absurd (omega (arith, lb))
flip_by (suc zero) zero c la lb e = rw e refl
flip_by (suc zero) (suc zero) c la lb e = rw e refl
flip_by (suc zero) (suc (suc b)) c la lb e = absurd (omega (arith, lb))
flip_by (suc (suc a)) b c la lb e = absurd (omega (arith, la))

flip : (x k n : ℕ) → x ≡ even k → bit_xor x (bit_xor (even n) 1) ≡ even (k + n)
flip x k n e = rw e (flip_by (k % 2) (n % 2) ((k + n) % 2) (omega arith) (omega arith) (omega arith))

-- the date's parity at DCF77, where the fields of some date have 1, 2, 1 and 0 ones
dcf_shared : (d w m y : ℕ)
    → bit_xor (bit_xor (bit_xor (bit_xor (bit_xor (bit_xor 1 (bit_xor 1 1)) (bit_xor (even (1 + 2 + 1 + y)) 1)) (bit_xor (even (1 + 2 + m + 0)) 1))
    (bit_xor (even (d + 2 + 1 + 0)) 1)) (bit_xor (even (1 + w + 1 + 0)) 1)) (bit_xor 1 1)
    ≡ even (d + w + m + y)
dcf_shared d w m y =
    let year = flip 1 0 (1 + 2 + 1 + y) refl in
    let month = flip _ _ (1 + 2 + m + 0) year in
    let day = flip _ _ (d + 2 + 1 + 0) month in
    let weekday = flip _ _ (1 + w + 1 + 0) day in
    none _ 1 1 refl ∙ weekday ∙ ap only (omega arith)

abbrev odd : ℕ → ℕ
odd n = only (2 * 1 + (n + 1) % 2)

flip_odd_by : (a b c : ℕ) → a < 2 → b < 2 → c ≡ (a + b + 1) % 2 → bit_xor (only (2 * 1 + a)) (bit_xor (only (2 * 1 + b)) 8) ≡ only (2 * 1 + c)
flip_odd_by zero zero c la lb e = rw e refl
flip_odd_by zero (suc zero) c la lb e = rw e refl
flip_odd_by zero (suc (suc b)) c la lb e = absurd (omega (arith, lb))
flip_odd_by (suc zero) zero c la lb e = rw e refl
flip_odd_by (suc zero) (suc zero) c la lb e = rw e refl
flip_odd_by (suc zero) (suc (suc b)) c la lb e = absurd (omega (arith, lb))
flip_odd_by (suc (suc a)) b c la lb e = absurd (omega (arith, la))

flip_odd : (x k n : ℕ) → x ≡ odd k → bit_xor x (bit_xor (odd n) 8) ≡ odd (k + n)
flip_odd x k n e = rw e (flip_odd_by ((k + 1) % 2) ((n + 1) % 2) ((k + n + 1) % 2) (omega arith) (omega arith) (omega arith))

-- the parity of month and day at MSF, where those of some date have a one each
msf_shared : (m d : ℕ)
    → bit_xor (bit_xor (bit_xor (bit_xor (bit_xor (bit_xor 8 (bit_xor 8 8)) (bit_xor 8 8)) (bit_xor (odd (m + 1)) 8)) (bit_xor (odd (1 + d)) 8)) (bit_xor 8 8))
    (bit_xor 8 8)
    ≡ odd (m + d)
msf_shared m d =
    let month = flip_odd 8 0 (m + 1) refl in
    let day = flip_odd _ _ (1 + d) month in
    none _ 8 8 refl ∙ none _ 8 8 refl ∙ day ∙ ap only (omega arith)

-- so a second is told by what the fields change
abbrev by_fields : Station → DateFacts → ℕ → ℕ
by_fields station f s = laid (date_set station some_date s) (λ field. date_set station (alone field f) s)

single : (station : Station) (f : DateFacts) (s : ℕ) → s < 60 → is_shared station s ≡ false → by_fields station f s ≡ date_set station f s
single station f s lt alone_told =
    one_changes (field_at station s) (date_set station some_date s) (λ field. date_set station (alone field f) s)
    (λ other apart. no_other other station f s lt (rw (alone_told, apart) refl))
    ∙ sym (its_field station f s lt alone_told)

by_share : (station : Station) (f : DateFacts) (s : ℕ) → s < 60 → (shared : Bool) → is_shared station s ≡ shared → by_fields station f s ≡ date_set station f s
by_share station f s lt false e = single station f s lt e
by_share Dcf77 f s lt true e =
    let here : s ≡ 58 = eqb-true _ _ e in
    rw here (dcf_shared (ones dcf.day_weights f.day.day) (ones dcf.weekday_weights (dcf.weekday_from_monday f.day.weekday)) (ones dcf.month_weights f.day.month)
    (ones dcf.year_weights (f.day.year % 100)))
by_share Msf f s lt true e =
    let here : s ≡ 55 = eqb-true _ _ e in
    rw here (msf_shared (ones msf.month_weights f.day.month) (ones msf.day_weights f.day.day))
by_share Wwvb f s lt true e = absurd cc
by_share Jjy f s lt true e = absurd cc

-- The numbers of the values are those of the date's.
is_one : (n : ℕ) → n ≡ 1 → (n == 1) ≡ true
is_one n e = eq-eqb n 1 e

is_not_one : (n : ℕ) → n ≡ 0 → (n == 1) ≡ false
is_not_one n e = ne_eqb n 1 (λ one. absurd (omega (arith, e, one)))

flags_back : (summer change leap : Bool) (u : ℕ)
    → with_flags (u * 8 + flag leap * 4 + flag change * 2 + flag summer)
    ≡ record { day = first_day; summer = summer; change = change; us_code = u; leap = leap }
flags_back true true true u = same_facts _ _ _ _ _ _ _ _ _ _ refl (is_one _ (omega arith)) (is_one _ (omega arith)) (omega arith) (is_one _ (omega arith))
flags_back true true false u = same_facts _ _ _ _ _ _ _ _ _ _ refl (is_one _ (omega arith)) (is_one _ (omega arith)) (omega arith) (is_not_one _ (omega arith))
flags_back true false true u = same_facts _ _ _ _ _ _ _ _ _ _ refl (is_one _ (omega arith)) (is_not_one _ (omega arith)) (omega arith) (is_one _ (omega arith))
flags_back true false false u = same_facts _ _ _ _ _ _ _ _ _ _ refl (is_one _ (omega arith)) (is_not_one _ (omega arith)) (omega arith) (is_not_one _ (omega arith))
flags_back false true true u = same_facts _ _ _ _ _ _ _ _ _ _ refl (is_not_one _ (omega arith)) (is_one _ (omega arith)) (omega arith) (is_one _ (omega arith))
flags_back false true false u = same_facts _ _ _ _ _ _ _ _ _ _ refl (is_not_one _ (omega arith)) (is_one _ (omega arith)) (omega arith) (is_not_one _ (omega arith))
flags_back false false true u = same_facts _ _ _ _ _ _ _ _ _ _ refl (is_not_one _ (omega arith)) (is_not_one _ (omega arith)) (omega arith) (is_one _ (omega arith))
flags_back false false false u = same_facts _ _ _ _ _ _ _ _ _ _ refl (is_not_one _ (omega arith)) (is_not_one _ (omega arith)) (omega arith) (is_not_one _ (omega arith))

value_back : (field : DateField) (f : DateFacts) → AreInRange f → with_value field (value_of field f) ≡ alone field f
value_back Flags f ranges = flags_back f.summer f.change f.leap f.us_code
value_back Year f ranges =
    let same : 2000 + (f.day.year - 2000) ≡ f.day.year = omega (arith, ranges.day.year.0) in
    ap (λ y. on_day (record first_day { year = y })) same
value_back Month f ranges =
    let same : 1 + (f.day.month - 1) ≡ f.day.month = omega (arith, ranges.day.month.0) in
    ap (λ m. on_day (record first_day { month = m })) same
value_back DayOfMonth f ranges =
    let same : 1 + (f.day.day - 1) ≡ f.day.day = omega (arith, ranges.day.day.0) in
    ap (λ d. on_day (record first_day { day = d })) same
value_back Weekday f ranges = refl
value_back DayOfYear f ranges =
    let same : 1 + (f.day.day_of_year - 1) ≡ f.day.day_of_year = omega (arith, ranges.day.day_of_year.0) in
    ap (λ d. on_day (record first_day { day_of_year = d })) same

abbrev change_by : Station → DateField → DateFacts → ℕ → ℕ
change_by station field f s = changed station (with_value field (value_of field f)) s

change_is : (station : Station) (field : DateField) (f : DateFacts) (s v : ℕ) → AreInRange f → v ≡ change_by station field f s
    → v ≡ bit_xor (date_set station (alone field f) s) (date_set station some_date s)
change_is station field f s v ranges e = e ∙ ap (λ g. changed station g s) (value_back field f ranges)

pub told_by_fields : (station : Station) (f : DateFacts) (s some flags year month day weekday day_of_year : ℕ) → s < 60 → AreInRange f
    → some ≡ date_set station some_date s → flags ≡ change_by station Flags f s → year ≡ change_by station Year f s → month ≡ change_by station Month f s
    → day ≡ change_by station DayOfMonth f s → weekday ≡ change_by station Weekday f s → day_of_year ≡ change_by station DayOfYear f s
    → bit_xor (bit_xor (bit_xor (bit_xor (bit_xor (bit_xor some flags) year) month) day) weekday) day_of_year ≡ date_set station f s
told_by_fields station f s some flags year month day weekday day_of_year lt ranges is_some is_flags is_year is_month is_day is_weekday is_day_of_year =
    rw (
      is_some,
      change_is station Flags f s flags ranges is_flags,
      change_is station Year f s year ranges is_year,
      change_is station Month f s month ranges is_month,
      change_is station DayOfMonth f s day ranges is_day,
      change_is station Weekday f s weekday ranges is_weekday,
      change_is station DayOfYear f s day_of_year ranges is_day_of_year,
    ) (by_share station f s lt _ refl)

-- what a row tells that stands at the number of the date's value
pub row_tells : (station : Station) (field : DateField) (f : DateFacts) (rows : List (List ℕ)) (row : List ℕ) (k s : ℕ) → AreRows station field rows (count_of field)
    → row ≡ get_or rows k row → k ≡ value_of field f → k < count_of field → s < 60 → get_or row s 0 ≡ change_by station field f s
row_tells station field f rows row k s are is number_is within lt =
    let inside : k < length rows = omega (arith, within, are.count) in
    ap (λ (r : List ℕ). get_or r s 0) (is ∙ get_or_default rows k row [] inside)
    ∙ are.each k s within lt
    ∙ ap (λ (n : ℕ). changed station (with_value field n) s) number_is

-- the row of one value more
pub one_more_row : (station : Station) (field : DateField) (rows more : List (List ℕ)) (row part some : List ℕ) (g : DateFacts) (n : ℕ) → AreRows station field rows n
    → more ≡ rows ++ row ∷ [] → ((s : ℕ) → s < 60 → get_or row s 0 ≡ bit_xor (get_or part s 0) (get_or some s 0)) → part ≡ date_part station g
    → g ≡ with_value field n → some ≡ date_part station some_date → AreRows station field more (n + 1)
one_more_row station field rows more row part some g n are added differ is_part is_value is_some =
    subst (λ (xs : List (List ℕ)). AreRows station field xs (n + 1)) (sym added)
    (record {
      count = omega (arith, length_push rows row, are.count);
      each = λ k s within lt. elim (cases_lt k n) [
        | inl early ↦ ap (λ (r : List ℕ). get_or r s 0) (get_or-append rows (row ∷ []) [] k (omega (arith, early, are.count))) ∙ are.each k s early lt
        | inr late ↦ (
            let here : n ≡ k = omega (arith, within, late) in
            ap (λ (r : List ℕ). get_or r s 0) (get_or_push rows row [] k (omega (arith, within, late, are.count)))
            ∙ differ s lt
            ∙ ap (λ (x : ℕ). bit_xor x (get_or some s 0))
            (ap (λ (r : List ℕ). get_or r s 0) is_part ∙ in_date_part station g s lt ∙ ap (λ (h : DateFacts). date_set station h s) (is_value ∙ ap (with_value field) here))
            ∙ ap (λ (x : ℕ). bit_xor (date_set station (with_value field k) s) x) (ap (λ (r : List ℕ). get_or r s 0) is_some ∙ in_date_part station some_date s lt))
      ];
    })
