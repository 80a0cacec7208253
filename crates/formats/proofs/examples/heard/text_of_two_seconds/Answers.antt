-- A text of two seconds, all of it computed.
use Rattle.std.proofs.Common.{refl}
use Rattle.std.specs.Fmt.{digits}
use Rattle.signal_base.specs.Table.{difference_table}
use Rattle.definitions.specs.time.Calendar.{day_at}
use Rattle.definitions.specs.time.Summer.{eu_change_within, season_at}
use Rattle.definitions.specs.sequences.Walks.{place_at}
use Rattle.definitions.specs.heard.Logs.{low_count}
use Rattle.definitions.specs.heard.Costs.{sum_below}
use Rattle.formats.specs.Heard.{slots_lines}
use Rattle.formats.proofs.examples.heard.text_of_two_seconds.Goals as goal

pub returns : goal.returns
unfolding digits difference_table day_at eu_change_within season_at place_at low_count sum_below slots_lines
returns c = refl
