-- What examples of what is due are about.
use Rattle.std.specs.Prelude.{ℕ, ◌==◌, if◌then◌else◌, List, [], ◌∷◌, ◌++◌, codes, map, replicate, None}
use Rattle.signal_base.specs.declared.station.Station.TheVariants.{Dcf77, Msf, Wwvb, Jjy}
use Rattle.signal_base.specs.declared.tuning.CostTable.{CostTable}
use Rattle.signal_base.specs.declared.window.Window.{Window}
use Rattle.signal_base.specs.Table.{difference_table}
use Rattle.definitions.specs.declared.level.Level.TheVariants.{High, Low}
use Rattle.definitions.specs.examples.Receivers.{heard, rises_at}
use Rattle.definitions.specs.heard.Receivers.{Receiver}
use Rattle.definitions.specs.heard.Logs.{Records}
use Rattle.definitions.specs.examples.Sequences.{window_of}
use Rattle.due.specs.Banks.{Bank, costs_in}
use Rattle.bank_config.specs.Configuration.{PlainConfig}
use Rattle.due.specs.Inputs.{Certificate, CertificateAt, Configuration, Contents, FramesText, LogOf, QueriesText}
-- the digits of a number, which examples open by this name
pub use Rattle.std.specs.Fmt.{digits}

-- DCF77, whose seconds begin as the carrier falls, heard to fall once
abbrev pub falls_once : Receiver
falls_once = heard Dcf77 0 1 ((6000, High) ∷ (6237, Low) ∷ (9000, High) ∷ [])

-- JJY, whose seconds begin as it rises, heard by two receivers, and DCF77 between them
abbrev pub mixed : List Receiver
mixed = rises_at 0 (5237 ∷ []) ++ falls_once ∷ rises_at 0 (4237 ∷ [])

-- a receiver that heard nothing
abbrev pub silent : Receiver
silent = heard Jjy 0 1 []

-- two receivers, of which the second names its own station
abbrev pub two_receivers : PlainConfig
two_receivers =
    record {
      station = Jjy;
      ceiling = 7;
      receivers =
          record { name = codes "north"; file = codes "n.log"; tuning = record { delay = 0; weight = 1; table = None }; station = Jjy }
          ∷ record { name = codes "south"; file = codes "s.log"; tuning = record { delay = 30; weight = 2; table = None }; station = Dcf77 } ∷ [];
      costs = difference_table;
    }

-- what a configuration and the logs of two receivers hold
abbrev pub held : List ℕ → List ℕ → List ℕ → Contents
held config first second Configuration = config
held config first second (LogOf receiver) = if receiver == 1 then first else second
held config first second Certificate = []
held config first second (CertificateAt offset) = []
held config first second FramesText = []
held config first second QueriesText = []

-- a cost table whose two lists differ: 3 for each tenth where the symbol is low, 5 for each where it is high
abbrev pub three_and_five : CostTable
three_and_five = record { low = replicate 101 3; high = replicate 101 5; second = None }

-- two receivers of two stations, a table and a ceiling
abbrev pub priced : PlainConfig
priced = record two_receivers { costs = three_and_five }

-- JJY, heard to send a 0 in the second that begins at 1237 ms
abbrev pub zero_at_1237 : Records
zero_at_1237 = (0, Low) ∷ (1237, High) ∷ (2037, Low) ∷ (2237, High) ∷ (9000, High) ∷ []

-- a bank with one receiver, which heard it, and counts double
abbrev pub bank_with : CostTable → Bank
bank_with table = record { receivers = heard Jjy 0 2 zero_at_1237 ∷ []; table = table; ceiling = 7 }

-- the costs of the symbols of JJY in the first second of a window with this phase
abbrev pub costs_of_symbols : ℕ → CostTable → List ℕ
costs_of_symbols phase table =
    map (costs_in (record (window_of 8 720 721) { start = 1000; phase = phase }) (bank_with table) Jjy 0) (0 ∷ 1 ∷ 2 ∷ [])

-- MSF, heard to send a 1 in bit B of a first second and of a third, and not of the second between them
abbrev pub one_of_two : Records
one_of_two =
    (0, Low) ∷ (100, High) ∷ (200, Low) ∷ (300, High) ∷ (1000, Low) ∷ (1100, High) ∷ (2000, Low) ∷ (2100, High) ∷ (2200, Low)
    ∷ (2300, High) ∷ (3000, High) ∷ []

-- four receivers, the last station first, of which the one of MSF alone heard something
abbrev pub four_stations : Bank
four_stations =
    record {
      receivers = heard Jjy 0 1 [] ∷ heard Wwvb 0 1 [] ∷ heard Msf 0 1 one_of_two ∷ heard Dcf77 0 1 [] ∷ [];
      table = difference_table;
      ceiling = 7;
    }

-- two seconds of the four stations
abbrev pub two_seconds : Window
two_seconds = record (window_of 15 720 721) { seconds = 2 }
