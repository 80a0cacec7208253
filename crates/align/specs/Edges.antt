-- The start edges of a log, record by record.
use Rattle.std.specs.Prelude.{ℕ, ◌+◌, ◌-◌, ◌*◌, ◌%◌, ◌&&◌, nat_lt, nat_le, if◌then◌else◌, List, map, filter, Option, Some, None}
use Rattle.signal_base.specs.declared.station.Station.{Station}
use Rattle.definitions.specs.declared.level.Level.{Level}
use Rattle.definitions.specs.heard.Logs.{Records}
use Rattle.definitions.specs.heard.Phase.{is_start_edge, start_edges}

-- the offset of a record, if it begins a second of the n from `begin` on, given the level before it
abbrev pub start_offset : Station → ℕ → ℕ → Level → ℕ × Level → Option ℕ
start_offset station begin n before r =
    if is_start_edge station before r.1 && (nat_le begin r.0 && nat_lt r.0 (begin + 1000 * n))
    then Some ((r.0 - begin) % 1000)
    else None

-- the offsets of all start edges of a log in the n seconds from `begin` on
abbrev pub offsets_from : Station → ℕ → ℕ → Records → List ℕ
offsets_from station begin n log =
    map (λ e. (e - begin) % 1000) (filter (λ e. nat_le begin e && nat_lt e (begin + 1000 * n)) (start_edges station log))
