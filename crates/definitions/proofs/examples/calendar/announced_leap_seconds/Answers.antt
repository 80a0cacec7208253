-- Announced leap seconds.
use Rattle.std.proofs.Common.{refl}
use Rattle.definitions.specs.time.Calendar.{day_at}
use Rattle.definitions.specs.time.Summer.{season_at}
use Rattle.definitions.proofs.examples.calendar.announced_leap_seconds.Goals as goal

pub returns-clause-dcf77 : goal.returns-clause-dcf77
unfolding day_at season_at
returns-clause-dcf77 c = refl

pub returns-clause-dcf77_before : goal.returns-clause-dcf77_before
unfolding day_at season_at
returns-clause-dcf77_before c = refl

pub returns-clause-wwvb : goal.returns-clause-wwvb
unfolding day_at season_at
returns-clause-wwvb c = refl

pub returns-clause-wwvb_before : goal.returns-clause-wwvb_before
unfolding day_at season_at
returns-clause-wwvb_before c = refl

pub returns-clause-jjy : goal.returns-clause-jjy
unfolding day_at season_at
returns-clause-jjy c = refl

pub returns-clause-jjy_before : goal.returns-clause-jjy_before
unfolding day_at season_at
returns-clause-jjy_before c = refl

pub returns-clause-wwvb_months : goal.returns-clause-wwvb_months
unfolding day_at season_at
returns-clause-wwvb_months c = refl

pub returns-clause-jjy_months : goal.returns-clause-jjy_months
unfolding day_at season_at
returns-clause-jjy_months c = refl

pub returns-clause-not_announced : goal.returns-clause-not_announced
unfolding day_at season_at
returns-clause-not_announced c = refl
