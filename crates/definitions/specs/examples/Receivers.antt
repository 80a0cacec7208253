-- Small logs, for examples of what they cost, their phase, and the DUT1 that they tell.
use Rattle.std.specs.Prelude.{ℕ, ◌-◌, ◌*◌, ◌==◌, ◌&&◌, not, if◌then◌else◌, List, [], ◌∷◌, ◌++◌, map, Some, None}
use Rattle.std.specs.List.{flat_map, range_with_len}
use Rattle.signal_base.specs.declared.station.Station.{Station}
use Rattle.signal_base.specs.declared.station.Station.TheVariants.{Dcf77, Msf, Wwvb, Jjy}
use Rattle.signal_base.specs.declared.dut.Dut.{Dut}
use Rattle.signal_base.specs.declared.tuning.CostTable.{CostTable}
use Rattle.signal_base.specs.Table.{difference_table}
use Rattle.definitions.specs.declared.level.Level.TheVariants.{High, Low, Unknown}
use Rattle.definitions.specs.declared.sequence.Sequence.{Sequence}
use Rattle.definitions.specs.codes.Vocabulary.{is_one_of, is_within}
use Rattle.definitions.specs.heard.Logs.{Records}
use Rattle.definitions.specs.heard.Receivers.{Receiver}
use Rattle.definitions.specs.heard.Costs.{bank_costs, dut_of}

-- a receiver of this weight that hears a station this late
abbrev pub heard : Station → ℕ → ℕ → Records → Receiver
heard station delay weight log =
    record { station = station; heard = record { tuning = record { delay = delay; weight = weight; table = None }; log = log } }

-- the same receiver with a table of its own
abbrev pub with_table : CostTable → Receiver → Receiver
with_table table r = record r { heard = record r.heard { tuning = record r.heard.tuning { table = Some table } } }

-- the table that counts the milliseconds that differ, where a second costs so much at the most
abbrev pub at_most : ℕ → CostTable
at_most most = record difference_table { second = Some most }

-- the table by which a millisecond that differs costs 2
unfoldable pub double_table : CostTable
double_table = record { low = map (λ n. 200 - 2 * n) (range_with_len 0 101); high = map (λ n. 2 * n) (range_with_len 0 101); second = None }

-- DCF77, heard 30 ms late: a 0 of 95 ms and a 1 of 205 ms
abbrev pub two_pulses : List Receiver
two_pulses = heard Dcf77 30 1 ((0, High) ∷ (30, Low) ∷ (125, High) ∷ (1030, Low) ∷ (1235, High) ∷ (3000, High) ∷ []) ∷ []

-- MSF by a receiver that heard a 0, and by a lighter one that heard a 1 in bit B
abbrev pub heard_zero : Receiver
heard_zero = heard Msf 0 3 ((0, Low) ∷ (100, High) ∷ (1000, High) ∷ [])

abbrev pub heard_one : Receiver
heard_one = heard Msf 0 1 ((0, Low) ∷ (100, High) ∷ (200, Low) ∷ (300, High) ∷ (1000, High) ∷ [])

abbrev pub at_odds : List Receiver
at_odds = heard_zero ∷ heard_one ∷ []

-- MSF's second 0, heard 20 ms too short
abbrev pub short_marker : List Receiver
short_marker = heard Msf 0 1 ((0, Low) ∷ (480, High) ∷ (1000, High) ∷ []) ∷ []

-- JJY by a receiver that heard no pulse in a second
abbrev pub silence : List Receiver
silence = heard Jjy 0 1 ((0, High) ∷ (1000, High) ∷ []) ∷ []

-- WWVB by a receiver whose log breaks off in the fifth tenth
abbrev pub broken_off : List Receiver
broken_off = heard Wwvb 0 1 ((0, Low) ∷ (200, High) ∷ (420, Unknown) ∷ (1000, Unknown) ∷ []) ∷ []

-- what some symbols cost in a slot
abbrev pub costs_in : List Receiver → Station → ℕ → List ℕ → List ℕ
costs_in bank station k symbols = map (bank_costs difference_table bank 0 station k) symbols

-- what they cost where a second costs so much at the most
abbrev pub capped_in : ℕ → List Receiver → Station → ℕ → List ℕ → List ℕ
capped_in most bank station k symbols = map (bank_costs (at_most most) bank 0 station k) symbols

-- JJY, whose seconds begin as the carrier rises, heard to rise at these times by a receiver that is this late
abbrev pub rises_at : ℕ → List ℕ → List Receiver
rises_at delay times = heard Jjy delay 1 (flat_map (λ t. (t - 1, Low) ∷ (t, High) ∷ []) times ++ (9000, High) ∷ []) ∷ []

-- a log that changes from each level to each other, and stays low once
abbrev pub each_change : Records
each_change =
    (100, Low) ∷ (200, High) ∷ (300, Low) ∷ (400, Unknown) ∷ (500, High) ∷ (600, Unknown) ∷ (700, Low) ∷ (800, Low) ∷ []

-- costs by which of the slots from first to last these heard a 1 and the others a 0, at 100 for a symbol that differs
abbrev pub ones_heard : ℕ → ℕ → List ℕ → ℕ → ℕ → ℕ
ones_heard first last ones k x =
    if is_within first last k && not (x == (if is_one_of ones k then 1 else 0)) then 100 else 0

-- what a minute of a station tells of DUT1, by such costs
abbrev pub dut_heard : Station → List ℕ → Sequence → Dut
dut_heard station ones q = dut_of station (ones_heard 0 59 ones) 60 q
