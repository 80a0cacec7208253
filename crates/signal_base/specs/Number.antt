-- The stations in their order.
use Rattle.std.specs.Prelude.{ℕ}
use Rattle.signal_base.specs.declared.station.Station.{Station}
use Rattle.signal_base.specs.declared.station.Station.TheVariants.{Dcf77, Msf, Wwvb, Jjy}

-- a station's place in the order DCF77, MSF, WWVB, JJY
abbrev pub number_of : Station → ℕ
number_of Dcf77 = 0
number_of Msf = 1
number_of Wwvb = 2
number_of Jjy = 3
