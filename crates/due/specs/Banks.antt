-- A bank and the logs of its receivers: the window that is asked about, what sequences cost in it, and the answer.
use Rattle.std.specs.Prelude.{ℕ, ◌+◌, ◌==◌, Bool, if◌then◌else◌, List, [], ◌∷◌, filter, map, unwrap_or}
use Rattle.std.specs.List.{flat_map, list_any}
use Rattle.signal_base.specs.declared.station.Station.{Station}
use Rattle.signal_base.specs.declared.station.Station.TheVariants.{Dcf77, Msf, Wwvb, Jjy}
use Rattle.signal_base.specs.declared.station.Stations.{Stations}
use Rattle.signal_base.specs.declared.dut.StationDut.{StationDut}
use Rattle.signal_base.specs.declared.tuning.CostTable.{CostTable}
use Rattle.signal_base.specs.declared.window.Window.{Window}
use Rattle.signal_base.specs.Number.{number_of}
use Rattle.definitions.specs.declared.answer.Answer.{Answer}
use Rattle.definitions.specs.declared.answer.Answer.TheVariants.{Nothing, Decided, Undecided}
use Rattle.definitions.specs.codes.Allowed.{stations_of}
use Rattle.definitions.specs.heard.Logs.{Records}
use Rattle.definitions.specs.heard.Receivers.{Receiver}
use Rattle.definitions.specs.heard.Phase.{phase_of}
use Rattle.definitions.specs.heard.Costs.{Costs, bank_costs, dut_of, least}
use Rattle.definitions.specs.answers.Answers.{IsWindowAnswer}
use Rattle.formats.specs.declared.words.Asked.{Asked}
use Rattle.bank_config.specs.Configuration.{PlainConfig, PlainReceiver}

-- what is scored: the receivers with what they heard, what a tenth of a second costs, and above which cost nothing is
-- admitted
pub record Bank : Type 0 where
  pub receivers : List Receiver
  pub table : CostTable
  pub ceiling : ℕ

-- the receivers of a configuration with their logs
abbrev pub receivers_of : List PlainReceiver → List Records → List Receiver
receivers_of [] logs = []
receivers_of (r ∷ rs) [] = []
receivers_of (r ∷ rs) (log ∷ logs) =
    record { station = r.station; heard = record { tuning = r.tuning; log = log } } ∷ receivers_of rs logs

abbrev pub bank_of : PlainConfig → List Records → Bank
bank_of config logs = record { receivers = receivers_of config.receivers logs; table = config.costs; ceiling = config.ceiling }

-- some receiver listens to the station
abbrev pub is_heard : List Receiver → Station → Bool
is_heard receivers station = list_any (λ r. number_of r.station == number_of station) receivers

-- the stations to which receivers listen: a bit for each, in their order
abbrev pub bit_where : Bool → ℕ → ℕ
bit_where heard bit = if heard then bit else 0

abbrev pub stations_heard : List Receiver → Stations
stations_heard receivers =
    record {
      mask = bit_where (is_heard receivers Dcf77) 1 + bit_where (is_heard receivers Msf) 2
          + bit_where (is_heard receivers Wwvb) 4 + bit_where (is_heard receivers Jjy) 8;
    }

-- the receivers that listen to a station, and all of them in the order of their stations, those of one station as before
abbrev pub listening_to : Station → List Receiver → List Receiver
listening_to station receivers = filter (λ r. number_of r.station == number_of station) receivers

abbrev pub by_station : List Receiver → List Receiver
by_station receivers = flat_map (λ station. listening_to station receivers) (Dcf77 ∷ Msf ∷ Wwvb ∷ Jjy ∷ [])

-- the bank with its receivers in this order
abbrev pub ordered : Bank → Bank
ordered bank = record { receivers = by_station bank.receivers; table = bank.table; ceiling = bank.ceiling }

-- the time of a log's first record, if it has one
abbrev pub first_times : Records → List ℕ
first_times [] = []
first_times (r ∷ rs) = r.0 ∷ []

-- the least of the logs' first times, and 0 where no log has a record
abbrev pub first_time : List Receiver → ℕ
first_time receivers = unwrap_or (least (flat_map (λ r. first_times r.heard.log) receivers)) 0

-- where the window starts: where the words say, else at the first time
abbrev pub start_of : Asked → List Receiver → ℕ
start_of asked receivers = unwrap_or asked.start (first_time receivers)

-- the window that is asked about
abbrev pub window_from : ℕ → Asked → List Receiver → Window
window_from start asked receivers =
    record {
      stations = stations_heard receivers;
      start = start;
      phase = phase_of start asked.seconds receivers;
      seconds = asked.seconds;
      from = asked.from;
      to = asked.to;
    }

abbrev pub window_of : Asked → List Receiver → Window
window_of asked receivers = window_from (start_of asked receivers) asked receivers

-- what symbols cost in it
abbrev pub costs_in : Window → Bank → Costs
costs_in window bank = bank_costs bank.table bank.receivers (window.start + window.phase)

-- the answer for it
abbrev pub IsBankAnswer : Window → Bank → Answer → Type 0
IsBankAnswer window bank answer = IsWindowAnswer window (costs_in window bank) bank.ceiling answer

-- what each station tells of DUT1 where the answer is decided
abbrev pub duts_of : Window → Bank → Answer → List StationDut
duts_of window bank Nothing = []
duts_of window bank (Decided cost q next) =
    map (λ station. record { station = station; dut = dut_of station (costs_in window bank station) window.seconds q }) (stations_of window.stations)
duts_of window bank (Undecided cost q r) = []
