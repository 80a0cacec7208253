-- The values of DUT1 by their numbers, from the least on.
use Rattle.std.specs.Prelude.{ℕ, ◌≡◌, ◌<◌, List, slice_index, ℤ, pos, ◌-ℤ◌}
use Rattle.signal_base.specs.declared.dut.Dut.{Dut}
use Rattle.signal_base.specs.declared.dut.Dut.TheVariants.{Absent, Tied, Tenths}
use Rattle.signal_base.specs.declared.station.Station.{Station}
use Rattle.signal_base.specs.declared.station.Station.TheVariants.{Msf, Wwvb}

-- how many values a station can send
abbrev pub value_count : Station → ℕ
value_count Msf = 17
value_count Wwvb = 19
value_count station = 0

-- the tenths of value i
abbrev pub tenths_at : Station → ℕ → ℤ
tenths_at Msf i = pos i -ℤ pos 8
tenths_at station i = pos i -ℤ pos 9

-- the costs of the values, in their order, are those of the function
abbrev pub AreByValue : Station → List ℕ → (ℤ → ℕ) → Type 0
AreByValue station told cost = (i : ℕ) → i < value_count station → slice_index told i ≡ cost (tenths_at station i)

-- what is told where one more value costs least
abbrev pub with_value : Dut → ℤ → Dut
with_value Absent d = Tenths d
with_value found d = Tied
