-- What examples of `follow` are about.
use Rattle.std.specs.Prelude.{ℕ, [], ◌∷◌, codes}
use Rattle.signal_base.specs.declared.station.Station.TheVariants.{Jjy}
use Rattle.signal_base.specs.declared.dut.Dut.TheVariants.{Absent}
use Rattle.signal_base.specs.declared.window.Window.{Window}
use Rattle.definitions.specs.declared.answer.Answer.{Answer}
use Rattle.definitions.specs.examples.Sequences.{window_of}
use Rattle.formats.specs.Examples.{dut_told}
use Rattle.formats.specs.declared.words.Asked.{Asked}
use Rattle.follow_due.specs.declared.window_report.WindowReport.{WindowReport}
use Rattle.follow_due.specs.FollowOrders.{FollowOrder}
-- the digits of a number, which examples open by this name
pub use Rattle.std.specs.Fmt.{digits}

-- two minutes of JJY, from a millisecond on, that may be any of the century
abbrev pub two_minutes : ℕ → Window
two_minutes start = record (window_of 8 0 52_596_000) { start = start; seconds = 120 }

-- what is told of them: JJY sends no DUT1
abbrev pub told_of : Window → Answer → WindowReport
told_of window answer = record { window = window; answer = answer; duts = dut_told Jjy Absent ∷ [] }

-- what is told of a window without a decision
abbrev pub open_told : Window → Answer → WindowReport
open_told window answer = record { window = window; answer = answer; duts = [] }

-- what is asked of a configuration k.toml
abbrev pub order_of_k : Asked → ℕ → ℕ → FollowOrder
order_of_k asked step count = record { config = codes "k.toml"; asked = asked; step = step; count = count }
