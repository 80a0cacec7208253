-- Announced changes of summer time.
use Rattle.std.proofs.Common.{refl}
use Rattle.definitions.specs.time.Calendar.{day_at}
use Rattle.definitions.specs.time.Summer.{season_at, eu_change_within}
use Rattle.definitions.proofs.examples.calendar.announced_changes.Goals as goal

pub returns-clause-dcf77 : goal.returns-clause-dcf77
unfolding day_at season_at eu_change_within
returns-clause-dcf77 c = refl

pub returns-clause-dcf77_before : goal.returns-clause-dcf77_before
unfolding day_at season_at eu_change_within
returns-clause-dcf77_before c = refl

pub returns-clause-msf : goal.returns-clause-msf
unfolding day_at season_at eu_change_within
returns-clause-msf c = refl

pub returns-clause-msf_before : goal.returns-clause-msf_before
unfolding day_at season_at eu_change_within
returns-clause-msf_before c = refl
