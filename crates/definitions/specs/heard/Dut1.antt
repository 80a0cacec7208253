-- DUT1, the tenths of a second from UTC to UT1: which seconds tell it at MSF and WWVB, and by which symbols.
use Rattle.std.specs.Prelude.{ℕ, ◌+◌, ◌*◌, Bool, true, false, ◌==◌, ◌||◌, if◌then◌else◌, List, [], ◌∷◌, map, ℤ, pos, negsuc, ◌-ℤ◌, unsigned_abs}
use Rattle.std.specs.List.{range_with_len}
use Rattle.signal_base.specs.declared.station.Station.{Station}
use Rattle.signal_base.specs.declared.station.Station.TheVariants.{Msf, Wwvb}
use Rattle.definitions.specs.codes.Vocabulary.{weights_from, carried_bit, is_within}

-- a station sends it
abbrev pub has_dut1 : Station → Bool
has_dut1 Msf = true
has_dut1 Wwvb = true
has_dut1 station = false

-- the second is one of those that tell it
abbrev pub is_dut1_second : Station → ℕ → Bool
is_dut1_second Msf s = is_within 1 16 s
is_dut1_second Wwvb s = is_within 36 38 s || is_within 40 43 s
is_dut1_second station s = false

-- the whole numbers from -n to n
abbrev pub up_to : ℕ → List ℤ
up_to n = map (λ k. pos k -ℤ pos n) (range_with_len 0 (2 * n + 1))

-- the tenths that a station can send
abbrev pub dut1_values : Station → List ℤ
dut1_values Msf = up_to 8
dut1_values Wwvb = up_to 9
dut1_values station = []

-- MSF: as many ones as there are tenths, from second 1 on where DUT1 is positive, from second 9 on where it is
-- negative. Of -n - 1 tenths the last one is in second 9 + n.
abbrev pub msf_dut1 : ℤ → ℕ → ℕ
msf_dut1 (pos n) s = if is_within 1 n s then 1 else 0
msf_dut1 (negsuc n) s = if is_within 9 (9 + n) s then 1 else 0

-- WWVB: the sign in the seconds 36 to 38, 1 0 1 from 0 on and 0 1 0 below
abbrev pub wwvb_sign : ℤ → ℕ → ℕ
wwvb_sign (pos n) s = if s == 37 then 0 else 1
wwvb_sign (negsuc n) s = if s == 37 then 1 else 0

-- WWVB: the sign, and the tenths in binary in the seconds 40 to 43
abbrev pub wwvb_dut1 : ℤ → ℕ → ℕ
wwvb_dut1 d s =
    if is_within 36 38 s then wwvb_sign d s
    else carried_bit ((weights_from 40 (8 ∷ 4 ∷ 2 ∷ 1 ∷ []), unsigned_abs d) ∷ []) s

-- the symbol by which a station tells d tenths in a second of DUT1
abbrev pub dut1_symbol : Station → ℤ → ℕ → ℕ
dut1_symbol Msf d s = msf_dut1 d s
dut1_symbol Wwvb d s = wwvb_dut1 d s
dut1_symbol station d s = 0
