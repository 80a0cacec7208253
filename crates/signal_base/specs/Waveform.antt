-- The waveforms: the tenths of a second, numbered from 0, in which the carrier is low.
-- PTB on DCF77, NPL on MSF 60 kHz, NIST SP 432 on WWVB's amplitude code, NICT on JJY.
use Rattle.std.specs.Prelude.{ℕ, ◌==◌, List, [], ◌∷◌, Bool, map, if◌then◌else◌}
use Rattle.std.specs.List.{list_any}
use Rattle.signal_base.specs.declared.station.Station.{Station}
use Rattle.signal_base.specs.declared.station.Station.TheVariants.{Dcf77, Msf, Wwvb, Jjy}

-- how many symbols a station has
abbrev pub symbol_count : Station → ℕ
symbol_count Dcf77 = 3
symbol_count Msf = 5
symbol_count Wwvb = 3
symbol_count Jjy = 3

-- the tenths that are low: of DCF77 a 0, a 1, no reduction; of MSF the pairs of bits 00, 01, 10, 11, second 0;
-- of WWVB and JJY a 0, a 1, a marker
abbrev pub low_tenths : Station → ℕ → List ℕ
low_tenths Dcf77 x =
    if x == 0 then 0 ∷ []
    else if x == 1 then 0 ∷ 1 ∷ []
    else []
low_tenths Msf x =
    if x == 0 then 0 ∷ []
    else if x == 1 then 0 ∷ 2 ∷ []
    else if x == 2 then 0 ∷ 1 ∷ []
    else if x == 3 then 0 ∷ 1 ∷ 2 ∷ []
    else 0 ∷ 1 ∷ 2 ∷ 3 ∷ 4 ∷ []
low_tenths Wwvb x =
    if x == 0 then 0 ∷ 1 ∷ []
    else if x == 1 then 0 ∷ 1 ∷ 2 ∷ 3 ∷ 4 ∷ []
    else 0 ∷ 1 ∷ 2 ∷ 3 ∷ 4 ∷ 5 ∷ 6 ∷ 7 ∷ []
low_tenths Jjy x =
    if x == 0 then 8 ∷ 9 ∷ []
    else if x == 1 then 5 ∷ 6 ∷ 7 ∷ 8 ∷ 9 ∷ []
    else 2 ∷ 3 ∷ 4 ∷ 5 ∷ 6 ∷ 7 ∷ 8 ∷ 9 ∷ []

-- the ten tenths of a second
abbrev pub tenths : List ℕ
tenths = 0 ∷ 1 ∷ 2 ∷ 3 ∷ 4 ∷ 5 ∷ 6 ∷ 7 ∷ 8 ∷ 9 ∷ []

-- of each tenth, whether it is low
abbrev pub waveform : Station → ℕ → List Bool
waveform station x = map (λ j. list_any (λ i. i == j) (low_tenths station x)) tenths
