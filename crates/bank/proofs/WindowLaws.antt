-- The window that is asked about, and its ranges.
use Rattle.std.proofs.Common.{◌≡◌, ℕ, ◌<◌, ◌≤◌, Bool, true, false, List, [], ◌∷◌, length, refl, arith}
use Rattle.signal_base.specs.declared.station.Station.{Station}
use Rattle.signal_base.specs.declared.station.Station.TheVariants.{Dcf77, Msf, Wwvb, Jjy}
use Rattle.signal_base.specs.declared.station.Stations.{Stations}
use Rattle.signal_base.specs.declared.window.Window.{Window}
use Rattle.definitions.specs.heard.Receivers.{Receiver}
use Rattle.definitions.specs.heard.Phase.{agreement, phase_of}
use Rattle.definitions.proofs.PhaseLaws.{first_maximum_is}
use Rattle.formats.specs.declared.words.Asked.{Asked}
use Rattle.due.specs.Banks.{bit_where, start_of, stations_heard, window_of}
use Rattle.bank.specs.Hearing.{is_among, stations_among}

-- its parts
pub window_is : (asked : Asked) (rs : List Receiver) (stations : Stations) (start phase : ℕ) → stations ≡ stations_heard rs → start ≡ start_of asked rs
    → phase ≡ phase_of start asked.seconds rs
    → ◌≡◌ {A = Window} (record { stations = stations; start = start; phase = phase; seconds = asked.seconds; from = asked.from; to = asked.to }) (window_of asked rs)
window_is asked rs stations start phase e f g = rw (e, g, f) refl

-- a phase is below a second
pub phase_below : (start n : ℕ) (rs : List Receiver) (phase : ℕ) → phase ≡ phase_of start n rs → phase < 1000
phase_below start n rs phase e = let within = (first_maximum_is (agreement start n rs) 999).within in omega (arith, e)

bit_at_most : (heard : Bool) (bit : ℕ) → bit_where heard bit ≤ bit
bit_at_most true bit = omega arith
bit_at_most false bit = omega arith

pub at_most_four : (ss : List Station) → (stations_among ss).mask ≤ 15
at_most_four ss = omega (arith, bit_at_most (is_among ss Dcf77) 1, bit_at_most (is_among ss Msf) 2, bit_at_most (is_among ss Wwvb) 4, bit_at_most (is_among ss Jjy) 8)

pub some_station : (ss : List Station) → 1 ≤ length ss → 1 ≤ (stations_among ss).mask
some_station [] some = absurd (omega arith)
some_station (Dcf77 ∷ ss) some = omega arith
some_station (Msf ∷ ss) some = omega arith
some_station (Wwvb ∷ ss) some = omega arith
some_station (Jjy ∷ ss) some = omega arith
