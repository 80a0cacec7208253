-- Costs that are the same wherever a window looks.
use Rattle.std.specs.Prelude.{ℕ, ◌≡◌, ◌<◌, true}
use Rattle.signal_base.specs.declared.station.Station.{Station}
use Rattle.signal_base.specs.declared.window.Window.{Window}
use Rattle.signal_base.specs.Waveform.{symbol_count}
use Rattle.definitions.specs.codes.Allowed.{has_station}
use Rattle.definitions.specs.heard.Costs.{Costs}

-- each symbol of each station of the window costs the same in each slot
abbrev pub AgreeOn : Window → Costs → Costs → Type 0
AgreeOn window costs others = (station : Station) (k x : ℕ) → has_station window.stations station ≡ true → k < window.seconds
    → x < symbol_count station → costs station k x ≡ others station k x
