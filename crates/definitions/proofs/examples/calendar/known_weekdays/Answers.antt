-- Days of the calendar.
use Rattle.std.proofs.Common.{refl}
use Rattle.definitions.specs.time.Calendar.{day_at}
use Rattle.definitions.proofs.LastDay.{last_day}
use Rattle.definitions.proofs.examples.calendar.known_weekdays.Goals as goal

pub returns-clause-of_2000_01_01 : goal.returns-clause-of_2000_01_01
unfolding day_at
returns-clause-of_2000_01_01 c = refl

pub returns-clause-of_2000_02_29 : goal.returns-clause-of_2000_02_29
unfolding day_at
returns-clause-of_2000_02_29 c = refl

pub returns-clause-of_2004_07_04 : goal.returns-clause-of_2004_07_04
unfolding day_at
returns-clause-of_2004_07_04 c = refl

pub returns-clause-of_2010_10_10 : goal.returns-clause-of_2010_10_10
unfolding day_at
returns-clause-of_2010_10_10 c = refl

pub returns-clause-of_2016_12_31 : goal.returns-clause-of_2016_12_31
unfolding day_at
returns-clause-of_2016_12_31 c = refl

pub returns-clause-of_2020_02_29 : goal.returns-clause-of_2020_02_29
unfolding day_at
returns-clause-of_2020_02_29 c = refl

pub returns-clause-of_2024_12_25 : goal.returns-clause-of_2024_12_25
unfolding day_at
returns-clause-of_2024_12_25 c = refl

pub returns-clause-of_2038_01_19 : goal.returns-clause-of_2038_01_19
unfolding day_at
returns-clause-of_2038_01_19 c = refl

pub returns-clause-of_2050_05_05 : goal.returns-clause-of_2050_05_05
unfolding day_at
returns-clause-of_2050_05_05 c = refl

pub returns-clause-of_2099_12_31 : goal.returns-clause-of_2099_12_31
returns-clause-of_2099_12_31 c = last_day
