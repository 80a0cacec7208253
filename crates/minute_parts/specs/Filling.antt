-- A part by the date, as it is filled in.
use Rattle.std.specs.Prelude.{ℕ, ◌≡◌, ◌<◌, ◌≤◌, List, length, slice_index}
use Rattle.signal_base.specs.declared.station.Station.{Station}
use Rattle.minute_parts.specs.declared.dates.DateFacts.{DateFacts}
use Rattle.minute_parts.specs.Dates.{date_set}

-- the seconds before n are filled in, and the others are 0
pub record IsFilled (station : Station) (f : DateFacts) (part : List ℕ) (n : ℕ) : Type 0 where
  pub long : length part ≡ 60
  pub done : (s : ℕ) → s < n → slice_index part s ≡ date_set station f s
  pub rest : (s : ℕ) → n ≤ s → slice_index part s ≡ 0
