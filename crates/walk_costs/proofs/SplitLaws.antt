-- What a second costs by the two parts of its minute.
use Rattle.std.proofs.Common.{◌≡◌, ℕ, ◌+◌, ◌-◌, ◌%◌, ◌<◌, inl, inr, Bool, true, false, ◌==◌, ◌&&◌, ◌||◌, if◌then◌else◌, refl, sym, ap, ◌∙◌, arith}
use Rattle.std.proofs.lemmas.Bool.{cases_lt, eq-eqb, eqb-true, eqb-false, ne_eqb}
use Rattle.signal_base.specs.declared.station.Station.{Station}
use Rattle.signal_base.specs.declared.station.Station.TheVariants.{Dcf77, Msf, Wwvb, Jjy}
use Rattle.minute_parts.specs.Overlay.{is_given_up, is_time_second, overlay, tells_time}
use Rattle.walk_costs.specs.Dates.{minutes_to_call}

-- the minutes of the local day in which a station sends its call sign
abbrev pub calls : Station → ℕ → Bool
calls Jjy u = (u % 60 == 15) || (u % 60 == 45)
calls station u = false

or_false : (b : Bool) → b ≡ (b || false)
or_false true = refl
or_false false = refl

-- what the time of day tells: its own seconds, and those that the call sign takes
pub tells_by : (station : Station) (u s : ℕ) → tells_time station u s ≡ (is_time_second station s || (calls station u && is_given_up station s))
tells_by Dcf77 u s = or_false (is_time_second Dcf77 s)
tells_by Msf u s = or_false (is_time_second Msf s)
tells_by Wwvb u s = or_false (is_time_second Wwvb s)
tells_by Jjy u s = refl

call_at : (v : ℕ) → ((v % 60 == 15) || (v % 60 == 45)) ≡ (v % 30 == 15)
call_at v = by_tests (v % 60 == 15) (v % 60 == 45) refl refl
  where
    by_tests : (a b : Bool) → (v % 60 == 15) ≡ a → (v % 60 == 45) ≡ b → (a || b) ≡ (v % 30 == 15)
    by_tests true b e f = let is = eqb-true (v % 60) 15 e in sym (eq-eqb (v % 30) 15 (omega arith))
    by_tests false true e f = let is = eqb-true (v % 60) 45 f in sym (eq-eqb (v % 30) 15 (omega arith))
    by_tests false false e f =
        let no = eqb-false (v % 60) 15 e in
        let nor = eqb-false (v % 60) 45 f in
        sym (ne_eqb (v % 30) 15 (λ is. elim (cases_lt (v % 60) 30) [ inl lt ↦ no (omega arith) | inr le ↦ nor (omega arith) ]))

-- the walk minute that the call sign takes, of those that a walk may have
pub call_minute : (station : Station) (u m s : ℕ) → m < 30 → is_given_up station s ≡ true
    → (m == minutes_to_call u) ≡ calls station ((u + m) % 1440)
call_minute Dcf77 u m s few gives = absurd cc
call_minute Msf u m s few gives = absurd cc
call_minute Wwvb u m s few gives = absurd cc
call_minute Jjy u m s few gives =
    let v : ℕ = (u + m) % 1440 in
    by_test (m == (75 - u % 60) % 30) refl ∙ sym (call_at v)
  where
    by_test : (t : Bool) → (m == (75 - u % 60) % 30) ≡ t → (m == (75 - u % 60) % 30) ≡ ((u + m) % 1440 % 30 == 15)
    by_test true e =
        let is = eqb-true m ((75 - u % 60) % 30) e in
        e ∙ sym (eq-eqb ((u + m) % 1440 % 30) 15 (omega arith))
    by_test false e =
        let no = eqb-false m ((75 - u % 60) % 30) e in
        e ∙ sym (ne_eqb ((u + m) % 1440 % 30) 15 (λ is. no (omega arith)))

-- What is told of a second costs what its two parts cost, but for what the date tells of a second that the call sign
-- takes. `here` says whether the call sign takes the minute, where it could take the second.
pub parts_of_second : (cost : ℕ → ℕ) (time date : ℕ) (by_time call gives here : Bool) → cost 0 ≡ 0
    → ((by_time || (call && gives)) ≡ true → 0 < time) → ((by_time || (call && gives)) ≡ false → time ≡ 0) → (by_time ≡ true → date ≡ 0)
    → (gives ≡ true → here ≡ call)
    → cost (overlay time date) + (if here then cost (if gives then date else 0) else 0) ≡ cost time + cost date
parts_of_second cost time date by_time call gives here nothing told untold alone same = by_cases by_time call gives here told untold alone same
  where
    by_the_time : 0 < time → overlay time date ≡ time
    by_the_time some = ap (λ (b : Bool). if b then date else time) (ne_eqb time 0 (λ e. omega (arith, e, some)))

    by_the_date : time ≡ 0 → overlay time date ≡ date
    by_the_date none = ap (λ (b : Bool). if b then date else time) (eq-eqb time 0 none)

    none_lost : (gives here : Bool) → (if gives then date else 0) ≡ 0 → (if here then cost (if gives then date else 0) else 0) ≡ 0
    none_lost gives true none = ap cost none ∙ nothing
    none_lost gives false none = refl

    if_zero : (gives : Bool) → date ≡ 0 → (if gives then date else 0) ≡ 0
    if_zero true e = e
    if_zero false e = refl

    by_cases : (by_time call gives here : Bool) → ((by_time || (call && gives)) ≡ true → 0 < time) → ((by_time || (call && gives)) ≡ false → time ≡ 0)
        → (by_time ≡ true → date ≡ 0) → (gives ≡ true → here ≡ call)
        → cost (overlay time date) + (if here then cost (if gives then date else 0) else 0) ≡ cost time + cost date
    by_cases true call gives here told untold alone same =
        omega (arith, ap cost (by_the_time (told refl)), none_lost gives here (if_zero gives (alone refl)), ap cost (alone refl), nothing)
    by_cases false true true true told untold alone same = omega (arith, ap cost (by_the_time (told refl)))
    by_cases false true true false told untold alone same = let e = same refl in absurd cc
    by_cases false false true true told untold alone same = let e = same refl in absurd cc
    by_cases false false true false told untold alone same = omega (arith, ap cost (by_the_date (untold refl)), ap cost (untold refl), nothing)
    by_cases false true false here told untold alone same =
        omega (arith, ap cost (by_the_date (untold refl)), ap cost (untold refl), nothing, none_lost false here refl)
    by_cases false false false here told untold alone same =
        omega (arith, ap cost (by_the_date (untold refl)), ap cost (untold refl), nothing, none_lost false here refl)
