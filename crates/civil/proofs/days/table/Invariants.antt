use Rattle.std.proofs.Common.{◌≡◌, vec_len}
use Rattle.definitions.specs.time.Summer.{eu_season}
use Rattle.civil.specs.Days.{AreEntries}
use Rattle.civil.specs.Dated.{IsNumbered}
use Rattle.civil.specs.Seasons.{us_season}
use Rattle.civil.proofs.days.table.Given as goal

abbrev pub invariant-loop : goal.invariant-loop
invariant-loop l = record {
  count : vec_len l.entries ≡ l.counter;
  entries : AreEntries l.entries.items l.counter;
  today : IsNumbered l.today l.counter;
  eu_summer : l.eu_summer ≡ eu_season l.counter;
  us_summer : l.us_summer ≡ us_season l.counter;
}
