use Rattle.std.proofs.Common.{sym, arith}
use Rattle.definitions.specs.time.Calendar.{day_at}
use Rattle.definitions.specs.time.Summer.{is_last_sunday, us_begins, us_ends}
use Rattle.jiff_core.proofs.SignedLemmas.{signed_arith}
use Rattle.civil.proofs.Dates.{first_number, entries_more, by_parts, one_day, numbered_on}
use Rattle.civil.proofs.Seasons.{season_first, season_more}
use Rattle.civil.proofs.days.table.Goals as goal

pub loop-init : goal.loop-init
loop-init c = record {
  count = c.in_ok-entries.ensures.len;
  entries = λ k h. absurd (omega arith);
  today = rw c.from_plain-today.ensures first_number;
  eu_summer = sym (season_first (is_last_sunday 3) (is_last_sunday 10));
  us_summer = sym (season_first us_begins us_ends);
}

pub day_of-day-requires : goal.day_of-day-requires
day_of-day-requires c = (day_at c.loop.counter, numbered_on c.loop.today c.loop.counter (omega arith) c.loop.invariant.today)

pub loop-preserved : goal.loop-preserved
loop-preserved c =
    let n = c.loop.counter in
    let today = numbered_on c.loop.today n (omega arith) c.loop.invariant.today in
    let is = one_day c.loop.today c.day_of-day.result (day_at n) c.day_of-day.ensures today in
    let entry = by_parts _ _ _ _ _ _ is c.loop.invariant.eu_summer c.loop.invariant.us_summer in
    record {
      count = omega (arith, c.in_ok-push.ensures.len);
      entries = rw c.in_ok-push.ensures.items (entries_more c.loop.entries.items n (omega arith) c.loop.invariant.entries _ entry);
      today = omega (arith, signed_arith, c.day_after-today.ensures, c.loop.invariant.today);
      eu_summer = rw (c.eu_season_after-eu_summer.ensures, is, c.loop.invariant.eu_summer) (sym (season_more (is_last_sunday 3) (is_last_sunday 10) n));
      us_summer = rw (c.us_season_after-us_summer.ensures, is, c.loop.invariant.us_summer) (sym (season_more us_begins us_ends n));
    }
