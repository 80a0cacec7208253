-- The listing of a minute: its station, the minute and its length, and a character for each of its seconds.
use Rattle.std.specs.Prelude.{ℕ, Bool, List, ◌∷◌, ◌++◌, codes}
use Rattle.signal_base.specs.declared.station.Station.{Station}
use Rattle.definitions.specs.time.Calendar.{minute_length}
use Rattle.definitions.specs.time.Spelling.{minute_text, two_digits}
use Rattle.definitions.specs.codes.Listing.{characters}
use Rattle.formats.specs.Bytes.{space, line, station_name}

-- the first line of a listing
abbrev pub listing_head : Station → Bool → ℕ → List ℕ
listing_head station announced t =
    line (codes "encode " ++ station_name station ++ space ∷ minute_text t ++ space ∷ two_digits (minute_length announced t))

-- the listing of what a station may send in the minute t
abbrev pub listing : Station → Bool → ℕ → List ℕ
listing station announced t = listing_head station announced t ++ line (characters station announced t)
