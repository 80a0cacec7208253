-- What a walk of 60 seconds in each minute costs by the two parts of its telegrams, and what DUT1 adds to it.
use Rattle.std.specs.Prelude.{ℕ, ◌≡◌, ◌+◌, ◌-◌, ◌*◌, ◌%◌, ◌<◌, ◌≤◌, true, false, if◌then◌else◌, List, length, map, slice_index, unwrap_or, ℤ}
use Rattle.std.specs.List.{range_with_len}
use Rattle.signal_base.specs.declared.limits.TheConstants.{MOST_RECEIVERS}
use Rattle.signal_base.specs.declared.station.Station.{Station}
use Rattle.definitions.specs.codes.Vocabulary.{free, only}
use Rattle.definitions.specs.time.Calendar.{minutes_per_hour}
use Rattle.definitions.specs.heard.Costs.{least}
use Rattle.definitions.specs.heard.Dut1.{dut1_symbol, dut1_values, has_dut1, is_dut1_second}
use Rattle.symbol_cost.specs.Grid.{Grid, cost_at}
use Rattle.symbol_cost.specs.declared.limits.TheConstants.{RECEIVER_COST}
use Rattle.slot_columns.specs.Parts.{layered_cost, minute_cost}
use Rattle.slot_columns.specs.declared.limits.TheConstants.{SECONDS_PER_MINUTE}
use Rattle.minute_parts.specs.declared.call.TheConstants.{CALL_BEGIN, CALL_END, CALL_MINUTE, CALL_MINUTES}
use Rattle.minute_parts.specs.Overlay.{is_given_up}

-- what a part costs over the slots of a grid where each minute of the walk carries it
abbrev pub part_cost : Grid → ℕ → List ℕ → ℕ
part_cost grid p part = layered_cost grid.station (cost_at grid.rows) (length grid.rows) p part part

-- what the date tells of the seconds that JJY gives up for its call sign, and 0 elsewhere
abbrev pub given_up_set : Station → List ℕ → ℕ → ℕ
given_up_set station part s = if is_given_up station s then slice_index part s else 0

unfoldable pub given_up : Station → List ℕ → List ℕ
given_up station part = map (given_up_set station part) (range_with_len 0 60)

-- a part that tells of no other seconds than those from 40 to 55, in which the call sign is sent
pub record TellsOfCall (part : List ℕ) : Type 0 where
  pub before : (s : ℕ) → s < CALL_BEGIN → slice_index part s ≡ 0
  pub after : (s : ℕ) → CALL_END ≤ s → s < SECONDS_PER_MINUTE → slice_index part s ≡ 0

-- what the date tells of the other seconds, and 0 of these
abbrev pub kept_set : Station → List ℕ → ℕ → ℕ
kept_set station part s = if is_given_up station s then 0 else slice_index part s

unfoldable pub kept : Station → List ℕ → List ℕ
kept station part = map (kept_set station part) (range_with_len 0 60)

-- the first minute from v, a minute of an hour, on in which the call sign is sent: it comes so many minutes later
abbrev pub minutes_to_call : ℕ → ℕ
minutes_to_call v = (minutes_per_hour + CALL_MINUTE - v % minutes_per_hour) % CALL_MINUTES

-- what the date tells costs this in a walk of which the call sign takes walk minute m
abbrev pub date_cost : Grid → ℕ → ℕ → List ℕ → ℕ
date_cost grid p m part =
    part_cost grid p part - minute_cost grid.station (cost_at grid.rows) (length grid.rows) p m (given_up grid.station part)

-- and this in the seconds that are given up alone
abbrev pub given_cost : Grid → ℕ → ℕ → List ℕ → ℕ
given_cost grid p m part =
    part_cost grid p (given_up grid.station part)
    - minute_cost grid.station (cost_at grid.rows) (length grid.rows) p m (given_up grid.station part)

-- which is no more than this, in at most 21 minutes
abbrev pub most_in_call : ℕ
most_in_call = (CALL_END - CALL_BEGIN) * (MOST_RECEIVERS * RECEIVER_COST)

abbrev pub most_given : ℕ
most_given = 21 * most_in_call

-- In the seconds that tell DUT1 each minute has the set of both symbols, or, where d tenths are told, one of them.
abbrev pub free_set : Station → ℕ → ℕ
free_set station s = if is_dut1_second station s then free else 0

unfoldable pub free_part : Station → List ℕ
free_part station = map (free_set station) (range_with_len 0 60)

abbrev pub told_set : Station → ℤ → ℕ → ℕ
told_set station d s = if is_dut1_second station s then only (dut1_symbol station d s) else 0

unfoldable pub told_part : Station → ℤ → List ℕ
told_part station d = map (told_set station d) (range_with_len 0 60)

-- what they cost where one value is told in them, at the least, from second p on
abbrev pub least_told : Grid → ℕ → ℕ
least_told grid p = unwrap_or (least (map (λ d. part_cost grid p (told_part grid.station d)) (dut1_values grid.station))) 0

-- how much more this is than where each is free
pub record IsAdded (grid : Grid) (p added : ℕ) : Type 0 where
  pub some : has_dut1 grid.station ≡ true → added + part_cost grid p (free_part grid.station) ≡ least_told grid p
  pub none : has_dut1 grid.station ≡ false → added ≡ 0

-- of each second in which a walk may begin
abbrev pub AreAdded : Grid → List ℕ → Type 0
AreAdded grid added = (p : ℕ) → p < SECONDS_PER_MINUTE → IsAdded grid p (slice_index added p)
