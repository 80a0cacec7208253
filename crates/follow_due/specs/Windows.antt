-- Windows that follow one another over a log: which there are, and what is told of them.
use Rattle.std.specs.Prelude.{ℕ, ◌≡◌, ◌+◌, ◌-◌, ◌*◌, ◌<◌, ◌≤◌, List, [], ◌∷◌, map}
use Rattle.std.specs.List.{range_with_len}
use Rattle.signal_base.specs.declared.limits.TheConstants.{START_LIMIT}
use Rattle.signal_base.specs.declared.window.Window.{Window}
use Rattle.due.specs.Banks.{Bank, IsBankAnswer, duts_of}
use Rattle.follow_due.specs.declared.window_report.WindowReport.{WindowReport}

-- The window that starts so many steps of so many seconds after the first one. It has the seconds and the minutes of the first
-- one, and its phase: a clock that runs evenly has one phase for all of a log.
abbrev pub window_after : Window → ℕ → ℕ → Window
window_after first step i = record first { start = first.start + 1000 * (step * i) }

-- so many windows, from the first one on, each a step after the one before
abbrev pub windows_from : Window → ℕ → ℕ → List Window
windows_from first step count = map (window_after first step) (range_with_len 0 count)

-- the last of them starts early enough, or too late for a window
abbrev pub last_start : Window → ℕ → ℕ → ℕ
last_start first step count = first.start + 1000 * (step * (count - 1))

abbrev pub StartInTime : Window → ℕ → ℕ → Type 0
StartInTime first step count = last_start first step count < START_LIMIT

abbrev pub StartTooLate : Window → ℕ → ℕ → Type 0
StartTooLate first step count = START_LIMIT ≤ last_start first step count

-- this is told of a window of a bank: the answer for it, and what its stations tell of DUT1
pub record IsReportOf (bank : Bank) (window : Window) (told : WindowReport) : Type 0 where
  pub window_is : told.window ≡ window
  pub answer_is : IsBankAnswer window bank told.answer
  pub duts_are : told.duts ≡ duts_of window bank told.answer

-- this is told of windows, in their order
abbrev pub AreReportsOf : Bank → List Window → List WindowReport → Type 0
AreReportsOf bank [] reports = reports ≡ []
AreReportsOf bank (window ∷ windows) [] = ⊥
AreReportsOf bank (window ∷ windows) (told ∷ reports) = IsReportOf bank window told × AreReportsOf bank windows reports
