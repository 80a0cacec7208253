-- What a minute sends.
use Rattle.std.specs.Prelude.{ℕ, ◌≡◌, ◌<◌, ◌≤◌, Bool, List, slice_index}
use Rattle.signal_base.specs.declared.station.Station.{Station}
use Rattle.definitions.specs.codes.Allowed.{allowed, encoded_year}

-- these are the sets of the minute's seconds, if the station can encode it
abbrev pub AreSent : Station → Bool → ℕ → List ℕ → Type 0
AreSent station announced t sets =
    encoded_year station t ≤ 2099 → (s : ℕ) → s < 61 → slice_index sets s ≡ allowed station announced (t, s)
