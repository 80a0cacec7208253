-- The report of an answer. Each line ends with LF.
use Rattle.std.specs.Prelude.{ℕ, zero, suc, ◌+◌, ◌*◌, Bool, true, false, ◌==◌, nat_lt, if◌then◌else◌, List, [], ◌∷◌, ◌++◌, length, Option, Some, None, codes}
use Rattle.std.specs.Fmt.{decimal, signed_decimal}
use Rattle.std.specs.List.{flat_map}
use Rattle.signal_base.specs.declared.dut.Dut.{Dut}
use Rattle.signal_base.specs.declared.dut.Dut.TheVariants.{Absent, Free, Tied, Tenths}
use Rattle.signal_base.specs.declared.dut.StationDut.{StationDut}
use Rattle.signal_base.specs.declared.window.Window.{Window}
use Rattle.definitions.specs.declared.sequence.Sequence.{Sequence}
use Rattle.definitions.specs.declared.answer.Answer.{Answer}
use Rattle.definitions.specs.declared.answer.Answer.TheVariants.{Nothing, Decided, Undecided}
use Rattle.definitions.specs.time.Places.{Place, minute_of, second_of}
use Rattle.definitions.specs.time.Spelling.{minute_text}
use Rattle.definitions.specs.sequences.Walks.{place_at}
use Rattle.formats.specs.Bytes.{space, line, station_name, sequence_text}

-- the millisecond of the receivers' clock at which slot k begins
abbrev pub slot_begin : Window → ℕ → ℕ
slot_begin window k = window.start + window.phase + 1000 * k

-- the line of the minute t that begins in slot k
abbrev pub minute_line : Window → ℕ → ℕ → List ℕ
minute_line window t k = line (codes "minute " ++ minute_text t ++ codes " at " ++ decimal (slot_begin window k))

-- a text for a place in slot k, where a minute begins there
abbrev pub at_minute : (ℕ → ℕ → List ℕ) → Place → ℕ → List ℕ
at_minute text place k = if second_of place == 0 then text (minute_of place) k else []

-- the texts of the minutes that begin in the first n slots, in order
unfoldable pub at_minutes : (ℕ → ℕ → List ℕ) → Sequence → ℕ → List ℕ
at_minutes text q zero = []
at_minutes text q (suc n) = at_minutes text q n ++ at_minute text (place_at q n) n

abbrev pub phase_line : Window → List ℕ
phase_line window = line (codes "phase " ++ decimal window.phase)

abbrev pub sequence_line : Sequence → List ℕ
sequence_line q = line (codes "sequence " ++ sequence_text q)

abbrev pub next_line : Option ℕ → List ℕ
next_line None = line (codes "next none")
next_line (Some n) = line (codes "next " ++ decimal n)

-- whether a station sends DUT1
abbrev pub sends_dut : Dut → Bool
sends_dut Absent = false
sends_dut dut = true

abbrev pub dut_text : Dut → List ℕ
dut_text Absent = []
dut_text Free = codes "free"
dut_text Tied = codes "undecided"
dut_text (Tenths d) = signed_decimal d

-- the line of a station that sends DUT1, with its name where there are several stations
abbrev pub dut_line : Bool → StationDut → List ℕ
dut_line several d =
    if sends_dut d.dut
    then line (codes "dut1 " ++ (if several then station_name d.station ++ space ∷ [] else []) ++ dut_text d.dut)
    else []

abbrev pub dut_lines : List StationDut → List ℕ
dut_lines duts = flat_map (dut_line (nat_lt 1 (length duts))) duts

-- the report of an answer up to its minutes, with what each station of the window tells of DUT1
abbrev pub report_head : Window → List StationDut → Answer → List ℕ
report_head window duts Nothing = line (codes "none") ++ phase_line window
report_head window duts (Decided c q next) =
    line (codes "decided " ++ decimal c) ++ phase_line window ++ sequence_line q ++ next_line next ++ dut_lines duts
report_head window duts (Undecided c q r) =
    line (codes "undecided " ++ decimal c) ++ phase_line window ++ sequence_line q ++ sequence_line r

-- the minutes of a decided answer
abbrev pub report_minutes : Window → Answer → List ℕ
report_minutes window (Decided c q next) = at_minutes (minute_line window) q window.seconds
report_minutes window answer = []

abbrev pub report : Window → List StationDut → Answer → List ℕ
report window duts answer = report_head window duts answer ++ report_minutes window answer

-- what is told of a certificate that holds: that it does, and the report of its answer
abbrev pub certified_report : Window → List StationDut → Answer → List ℕ
certified_report window duts answer = line (codes "certified") ++ report window duts answer
