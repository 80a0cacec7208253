-- What examples of texts are about.
use Rattle.std.specs.Prelude.{ℕ, true, ◌==◌, if◌then◌else◌, List, map}
use Rattle.signal_base.specs.declared.station.Station.{Station}
use Rattle.signal_base.specs.declared.dut.Dut.{Dut}
use Rattle.signal_base.specs.declared.dut.StationDut.{StationDut}
use Rattle.signal_base.specs.declared.window.Window.{Window}
use Rattle.definitions.specs.declared.sequence.Sequence.{Sequence}
use Rattle.definitions.specs.examples.Sequences.{window_of}
use Rattle.formats.specs.declared.frame.Frame.{Frame}
-- the digits of a number, which examples open by this name
pub use Rattle.std.specs.Fmt.{digits}

-- what a station tells of DUT1
abbrev pub dut_told : Station → Dut → StationDut
dut_told station dut = record { station = station; dut = dut }

-- a sequence with a leap second
abbrev pub announced_from : ℕ → ℕ → Sequence
announced_from first second = record { first = first; second = second; announced = true }

-- 60 seconds of JJY, from a millisecond and a phase on
abbrev pub minute_from : ℕ → ℕ → Window
minute_from start phase = record (window_of 8 0 60) { start = start; phase = phase }

-- elements as one writes them: 0, 1 and M
abbrev pub element_sign : ℕ → ℕ
element_sign e = if e == 0 then 48 else if e == 1 then 49 else 77

abbrev pub signs : List ℕ → List ℕ
signs es = map element_sign es

-- the frame at a millisecond that tells a second of a minute
abbrev pub frame_at : ℕ → ℕ → ℕ → Frame
frame_at ms t second = record { at = ms; minute = t; second = second }
