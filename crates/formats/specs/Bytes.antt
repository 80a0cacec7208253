-- What all texts are made of: bytes by name, lines, names of stations, sequences.
use Rattle.std.specs.Prelude.{ℕ, if◌then◌else◌, List, [], ◌∷◌, ◌++◌, codes}
use Rattle.std.specs.Fmt.{decimal}
use Rattle.signal_base.specs.declared.station.Station.{Station}
use Rattle.signal_base.specs.declared.station.Station.TheVariants.{Dcf77, Msf, Wwvb, Jjy}
use Rattle.definitions.specs.declared.sequence.Sequence.{Sequence}
use Rattle.definitions.specs.time.Spelling.{minute_text}

abbrev pub line_feed : ℕ
line_feed = 10

abbrev pub carriage_return : ℕ
carriage_return = 13

abbrev pub space : ℕ
space = 32

abbrev pub number_sign : ℕ
number_sign = 35

abbrev pub dollar : ℕ
dollar = 36

abbrev pub asterisk : ℕ
asterisk = 42

abbrev pub comma : ℕ
comma = 44

abbrev pub letter_h : ℕ
letter_h = 72

abbrev pub letter_l : ℕ
letter_l = 76

abbrev pub letter_x : ℕ
letter_x = 88

-- a line of these bytes
abbrev pub line : List ℕ → List ℕ
line bytes = bytes ++ line_feed ∷ []

-- a station's name
abbrev pub station_name : Station → List ℕ
station_name Dcf77 = codes "dcf77"
station_name Msf = codes "msf"
station_name Wwvb = codes "wwvb"
station_name Jjy = codes "jjy"

-- the first minute, the first second, and whether a leap second is announced
abbrev pub sequence_text : Sequence → List ℕ
sequence_text q =
    minute_text q.first ++ space ∷ decimal q.second ++ space ∷ (if q.announced then codes "yes" else codes "no")
