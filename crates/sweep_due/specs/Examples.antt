-- What examples of `sweep` are about.
use Rattle.std.specs.Prelude.{ℕ, ◌+◌, ◌*◌, ◌^◌, List, [], ◌∷◌, Some, map, codes}
use Rattle.signal_base.specs.declared.station.Station.TheVariants.{Jjy}
use Rattle.signal_base.specs.declared.window.Window.{Window}
use Rattle.signal_base.specs.Table.{difference_table}
use Rattle.definitions.specs.declared.level.Level.TheVariants.{High, Low}
use Rattle.definitions.specs.examples.Receivers.{heard}
use Rattle.definitions.specs.examples.Sequences.{from_place, window_of}
use Rattle.definitions.specs.heard.Logs.{Records}
use Rattle.formats.specs.declared.words.Asked.{Asked}
use Rattle.due.specs.Banks.{Bank}
use Rattle.sweep_due.specs.declared.standing.Standing.{Standing}
use Rattle.sweep_due.specs.SweepOrders.{SweepOrder}
use Rattle.sweep_due.specs.Swept.{cost_at}
-- the digits of a number, which examples open by this name
pub use Rattle.std.specs.Fmt.{digits}

-- A marker of JJY and a 0 behind it. The marker rises in time, and all that comes behind it rises 30 ms late.
abbrev pub late_rises : Records
late_rises = (0, High) ∷ (200, Low) ∷ (1030, High) ∷ (1800, Low) ∷ (2030, High) ∷ (3000, Low) ∷ []

abbrev pub bank_with : Records → Bank
bank_with log = record { receivers = heard Jjy 0 1 log ∷ []; table = difference_table; ceiling = 7 }

-- two seconds of JJY from millisecond 0 on, in which a decode finds this phase
abbrev pub two_seconds : ℕ → Window
two_seconds phase = record (window_of 8 0 52_596_000) { phase = phase; seconds = 2 }

-- what the first two seconds of the century cost there at some offsets
abbrev pub costs_at : List ℕ → List ℕ
costs_at offsets = map (cost_at (two_seconds 30) (bank_with late_rises) (from_place 0 0)) offsets

-- the key of a cost and an index
abbrev pub key : ℕ → ℕ → ℕ
key cost index = cost * 2 ^ 33 + index

-- what stands: a key at an offset, and another
abbrev pub standing_of : ℕ → ℕ → ℕ → Standing
standing_of first offset second = record { first = Some (record { key = first; offset = offset }); second = Some second }

-- two minutes of JJY, from millisecond 0 on, that may be any of the century
abbrev pub two_minutes : ℕ → Window
two_minutes phase = record (window_of 8 0 52_596_000) { phase = phase; seconds = 120 }

-- what is asked of a configuration k.toml
abbrev pub order_of_k : Asked → SweepOrder
order_of_k asked = record { config = codes "k.toml"; asked = asked }
