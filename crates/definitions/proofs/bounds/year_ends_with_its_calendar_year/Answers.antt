-- Spans of years and years of the calendar.
use Rattle.definitions.proofs.SpanLaws.{year_lasts, year_passes}
use Rattle.definitions.proofs.bounds.year_ends_with_its_calendar_year.Goals as goal

pub returns-clause-lasts : goal.returns-clause-lasts
returns-clause-lasts c = year_lasts

pub returns-clause-ends : goal.returns-clause-ends
returns-clause-ends c = year_passes
