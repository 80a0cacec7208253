-- Dates that are read: jiff's date of their numbers, and the day that they are.
use Rattle.std.proofs.Common.{◌≡◌, ℕ, ◌<◌, ◌≤◌, refl, sym, ap, ◌∙◌, arith, pos, to_z, w8, w16}
use Rattle.std.proofs.lemmas.Int.{ints}
use Rattle.jiff_core.specs.declared.civil.date.Date.{Date}
use Rattle.jiff_core.specs.Calendar.{IsDate}
use Rattle.jiff_core.specs.Date.{epoch_day, IsYmd}
use Rattle.jiff_core.proofs.SignedLemmas.{signed_arith}
use Rattle.definitions.specs.time.Calendar.{century_days, day_at}
use Rattle.definitions.specs.time.Spelling.{date_text, day_text}
use Rattle.definitions.proofs.DateLaws.{same_date}
use Rattle.civil.specs.Dated.{IsNumbered}
use Rattle.civil.proofs.Dates.{has_date, numbered_on, plausible}

module _ (y m d : ℕ) where
  -- jiff's date has these numbers
  abbrev pub IsOf : Date → Type 0
  IsOf date = IsYmd (pos y) (pos m) (pos d) date

  -- two of them have one number
  pub same_number : (date other : Date) → IsOf date → IsOf other → epoch_day date ≡ epoch_day other
  same_number date other is also =
      let month : date.month ≡ other.month = (let a = is.1 in let b = also.1 in cc) in
      let day : date.day ≡ other.day = (let a = is.2 in let b = also.2 in cc) in
      rw (is.0, month, day, also.0) refl

  -- its text is that of the day of its number
  pub text_of_day : (date : Date) (n : ℕ) → IsOf date → n ≤ century_days → IsNumbered date n → date_text y m d ≡ day_text (day_at n)
  text_of_day date n is early number =
      let on = numbered_on date n early number in
      let year : y ≡ (day_at n).year = (let a = is.0 in let b = on.year in cc) in
      let month : m ≡ (day_at n).month = (let a = is.1 in let b = on.month in cc) in
      let day : d ≡ (day_at n).day = (let a = is.2 in let b = on.day in cc) in
      rw (year, month, day) refl

  -- numbers as short as a text has them
  module _ (year : y < 10000) (month : m < 100) (day : d < 100) where
    -- a day of this text has such a date
    pub date_of_text : (n : ℕ) → n ≤ century_days → date_text y m d ≡ day_text (day_at n) → (date : Date) × IsOf date × IsNumbered date n
    date_of_text n early e =
        let p = plausible n early in
        let same = same_date y m d _ _ _ year month day (omega (arith, p.year)) (omega (arith, p.month)) (omega (arith, p.day)) e in
        let there = has_date n early in
        let on = there.1 in
        (there.0, (on.year ∙ ap pos (sym same.0), ap pos (on.month ∙ sym same.1), ap pos (on.day ∙ sym same.2)), there.2)

    -- cast to signed numbers they are the same
    pub uncast : (date : Date) → IsYmd (to_z w16 y) (to_z w8 m) (to_z w8 d) date → IsOf date
    uncast date is = (omega (arith, ints, is.0), omega (arith, ints, is.1), omega (arith, ints, is.2))

    pub cast : (date : Date) → IsOf date → IsDate (to_z w16 y) (to_z w8 m) (to_z w8 d)
    cast date is =
        let signed_year : to_z w16 y ≡ date.year = omega (arith, ints, is.0) in
        let signed_month : to_z w8 m ≡ pos date.month = omega (arith, ints, is.1) in
        let signed_day : to_z w8 d ≡ pos date.day = omega (arith, ints, is.2) in
        rw (signed_year, signed_month, signed_day)
        (date.year_in, (omega (arith, signed_arith, date.month_in), omega (arith, signed_arith, date.month_in)), (omega (arith, signed_arith, date.day_in), omega (arith, signed_arith, date.day_in)))
