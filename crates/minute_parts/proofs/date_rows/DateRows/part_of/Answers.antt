use Rattle.std.proofs.Common.{◌≡◌, ◌<◌, ◌∙◌, ap, get_or, subst, arith}
use Rattle.minute_parts.specs.Dates.{some_date}
use Rattle.minute_parts.specs.Filling.{IsFilled}
use Rattle.minute_parts.specs.declared.date_rows.DateField.TheVariants.{DayOfMonth, DayOfYear, Flags, Month, Weekday, Year}
use Rattle.minute_parts.proofs.FactLaws.{in_date_part}
use Rattle.minute_parts.proofs.FieldLaws.{row_tells, told_by_fields}
use Rattle.minute_parts.proofs.FillLaws.{filled_more, finished}
use Rattle.minute_parts.proofs.date_rows.DateRows.part_of.Goals as goal

pub loop-s-preserved : goal.loop-s-preserved
loop-s-preserved c =
    let own = c.args.self.now in
    let station = own.station in
    let date = c.args.date.now in
    let s = c.loop-s.s in
    let lt : s < 60 = omega arith in
    filled_more station date c.loop-s.part s _ lt c.loop-s.invariant
    (told_by_fields station date s _ _ _ _ _ _ _ lt c.requires
    (ap (λ xs. get_or xs s 0) own.some_date ∙ in_date_part station some_date s lt)
    (row_tells station Flags date own.flags.items c.index-flags.result.now c.value_of.result s own.each_flags c.index-flags.ensures c.value_of.ensures.value
    c.value_of.ensures.bound lt)
    (row_tells station Year date own.years.items c.index-year.result.now c.value_of-2.result s own.each_year c.index-year.ensures c.value_of-2.ensures.value
    c.value_of-2.ensures.bound lt)
    (row_tells station Month date own.months.items c.index-month.result.now c.value_of-3.result s own.each_month c.index-month.ensures c.value_of-3.ensures.value
    c.value_of-3.ensures.bound lt)
    (row_tells station DayOfMonth date own.days.items c.index-day.result.now c.value_of-4.result s own.each_day c.index-day.ensures c.value_of-4.ensures.value
    c.value_of-4.ensures.bound lt)
    (row_tells station Weekday date own.weekdays.items c.index-weekday.result.now c.value_of-5.result s own.each_weekday c.index-weekday.ensures
    c.value_of-5.ensures.value c.value_of-5.ensures.bound lt)
    (row_tells station DayOfYear date own.days_of_year.items c.index-day_of_year.result.now c.value_of-6.result s own.each_day_of_year c.index-day_of_year.ensures
    c.value_of-6.ensures.value c.value_of-6.ensures.bound lt))

pub returns : goal.returns
returns c =
    let station = c.args.self.now.station in
    let all : c.loop-s.s ≡ 60 = omega arith in
    finished station c.args.date.now c.loop-s.part (subst (IsFilled station c.args.date.now c.loop-s.part) all c.loop-s.invariant)
