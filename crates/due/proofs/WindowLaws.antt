-- The window that is asked about is in its ranges, and has the stations to which receivers listen.
use Rattle.std.proofs.Common.{◌≡◌, ℕ, ◌+◌, ◌<◌, ◌≤◌, min, Bool, true, false, ◌==◌, ◌||◌, List, [], ◌∷◌, ◌++◌, fold, length, Option, Some, None, IfSome, refl, ap, arith}
use Rattle.std.specs.Prelude.{unwrap_or}
use Rattle.std.specs.List.{AllByRecursion, flat_map, list_any}
use Rattle.std.proofs.lemmas.Bool.{eq-eqb}
use Rattle.std.proofs.lemmas.List.Elements.{All-head}
use Rattle.signal_base.specs.Mask.{has_bit}
use Rattle.signal_base.specs.Number.{number_of}
use Rattle.signal_base.specs.declared.limits.TheConstants.{START_LIMIT}
use Rattle.signal_base.specs.declared.station.Station.{Station}
use Rattle.signal_base.specs.declared.station.Station.TheVariants.{Dcf77, Msf, Wwvb, Jjy}
use Rattle.definitions.specs.codes.Allowed.{has_station}
use Rattle.definitions.specs.heard.Costs.{least}
use Rattle.definitions.specs.heard.Logs.{Records}
use Rattle.definitions.specs.heard.Phase.{agreement, phase_of}
use Rattle.definitions.specs.heard.Receivers.{Receiver}
use Rattle.definitions.specs.sequences.Windows.{IsWindow}
use Rattle.definitions.proofs.PhaseLaws.{first_maximum_is}
use Rattle.formats.specs.declared.limits.TheConstants.{TIME_LIMIT}
use Rattle.formats.specs.declared.words.Asked.{Asked}
use Rattle.formats.specs.LogOrder.{IsOrderly}
use Rattle.formats.specs.OrderRanges.{IsAsked}
use Rattle.formats.proofs.OutcomeLaws.{log_is_orderly}
use Rattle.bank_config.specs.Configuration.{PlainConfig, PlainReceiver}
use Rattle.due.specs.Banks.{bit_where, first_time, first_times, is_heard, receivers_of, start_of, stations_heard, window_of}
use Rattle.due.specs.Configurations.{logs_from, logs_of}
use Rattle.due.specs.Inputs.{Contents, LogOf}
use Rattle.due.specs.LogFiles.{AreGood}

-- four bits of a mask
bits : (a b c d : Bool) → let mask = bit_where a 1 + bit_where b 2 + bit_where c 4 + bit_where d 8 in
    (has_bit mask 0 ≡ a) × (has_bit mask 1 ≡ b) × (has_bit mask 2 ≡ c) × (has_bit mask 3 ≡ d)
bits false false false false = (refl, refl, refl, refl)
bits false false false true = (refl, refl, refl, refl)
bits false false true false = (refl, refl, refl, refl)
bits false false true true = (refl, refl, refl, refl)
bits false true false false = (refl, refl, refl, refl)
bits false true false true = (refl, refl, refl, refl)
bits false true true false = (refl, refl, refl, refl)
bits false true true true = (refl, refl, refl, refl)
bits true false false false = (refl, refl, refl, refl)
bits true false false true = (refl, refl, refl, refl)
bits true false true false = (refl, refl, refl, refl)
bits true false true true = (refl, refl, refl, refl)
bits true true false false = (refl, refl, refl, refl)
bits true true false true = (refl, refl, refl, refl)
bits true true true false = (refl, refl, refl, refl)
bits true true true true = (refl, refl, refl, refl)

bit_at_most : (heard : Bool) (bit : ℕ) → bit_where heard bit ≤ bit
bit_at_most true bit = omega arith
bit_at_most false bit = omega arith

module _ (receivers : List Receiver) where
  all_bits : let mask = (stations_heard receivers).mask in
      (has_bit mask 0 ≡ is_heard receivers Dcf77) × (has_bit mask 1 ≡ is_heard receivers Msf) × (has_bit mask 2 ≡ is_heard receivers Wwvb)
      × (has_bit mask 3 ≡ is_heard receivers Jjy)
  all_bits = bits (is_heard receivers Dcf77) (is_heard receivers Msf) (is_heard receivers Wwvb) (is_heard receivers Jjy)

  pub station_is_heard : (station : Station) → has_station (stations_heard receivers) station ≡ is_heard receivers station
  station_is_heard Dcf77 = all_bits.0
  station_is_heard Msf = all_bits.1
  station_is_heard Wwvb = all_bits.2
  station_is_heard Jjy = all_bits.3

  at_most_four : (stations_heard receivers).mask ≤ 15
  at_most_four =
      omega (
        arith,
        bit_at_most (is_heard receivers Dcf77) 1,
        bit_at_most (is_heard receivers Msf) 2,
        bit_at_most (is_heard receivers Wwvb) 4,
        bit_at_most (is_heard receivers Jjy) 8,
      )

  heard_at_all : (station : Station) → is_heard receivers station ≡ true → 1 ≤ (stations_heard receivers).mask
  heard_at_all Dcf77 heard = omega (arith, ap (λ b. bit_where b 1) heard)
  heard_at_all Msf heard = omega (arith, ap (λ b. bit_where b 2) heard)
  heard_at_all Wwvb heard = omega (arith, ap (λ b. bit_where b 4) heard)
  heard_at_all Jjy heard = omega (arith, ap (λ b. bit_where b 8) heard)

first_is_heard : (r : Receiver) (rs : List Receiver) → is_heard (r ∷ rs) r.station ≡ true
first_is_heard r rs =
    ap (λ b. b || list_any (λ (other : Receiver). number_of other.station == number_of r.station) rs) (eq-eqb (number_of r.station) (number_of r.station) refl)

-- the least of some times
abbrev AreEarly : List ℕ → Type 0
AreEarly times = AllByRecursion (λ t. t < START_LIMIT) times

fold_le : (b : ℕ) (cs : List ℕ) → fold min b cs ≤ b
fold_le b [] = omega arith
fold_le b (c ∷ cs) = omega (arith, fold_le (min b c) cs)

least_is_early : (times : List ℕ) → AreEarly times → unwrap_or (least times) 0 < START_LIMIT
least_is_early [] early = omega arith
least_is_early (t ∷ ts) early = omega (arith, fold_le t ts, early.0)

first_is_early : (log : Records) (times : List ℕ) → IsOrderly log → AreEarly times → AreEarly (first_times log ++ times)
first_is_early [] times orderly early = early
first_is_early (r ∷ rs) times orderly early = (omega (arith, All-head (λ r. r.0 < TIME_LIMIT) r rs orderly.below), early)

-- a phase is below a second
pub phase_in_range : (start seconds : ℕ) (receivers : List Receiver) → phase_of start seconds receivers < 1000
phase_in_range start seconds receivers = omega (arith, (first_maximum_is (agreement start seconds receivers) 999).within)

module _ (contents : Contents) where
  are_early : (number : ℕ) (rs : List PlainReceiver) (logs : List Records) → AreGood contents (logs_from number rs) logs
      → AreEarly (flat_map (λ r. first_times r.heard.log) (receivers_of rs logs))
  are_early number [] logs good = tt
  are_early number (r ∷ rs) [] good = tt
  are_early number (r ∷ rs) (log ∷ logs) good =
      first_is_early log (flat_map (λ r. first_times r.heard.log) (receivers_of rs logs)) (log_is_orderly (contents (LogOf number)) log good.0.is_log)
      (are_early (number + 1) rs logs good.1)

  some_is_heard : (number : ℕ) (rs : List PlainReceiver) (logs : List Records) → 1 ≤ length rs → AreGood contents (logs_from number rs) logs
      → 1 ≤ (stations_heard (receivers_of rs logs)).mask
  some_is_heard number [] logs some good = absurd (omega (arith, some))
  some_is_heard number (r ∷ rs) [] some good = absurd good
  some_is_heard number (r ∷ rs) (log ∷ logs) some good =
      let first : Receiver = record { station = r.station; heard = record { tuning = r.tuning; log = log } } in
      heard_at_all (first ∷ receivers_of rs logs) r.station (first_is_heard first (receivers_of rs logs))

  -- a start that is given, or the first time
  start_is_early : (start : Option ℕ) (time : ℕ) → IfSome start (λ ms. ms < START_LIMIT) → time < START_LIMIT → unwrap_or start time < START_LIMIT
  start_is_early None time given early = early
  start_is_early (Some ms) time given early = given

  pub start_in_range : (config : PlainConfig) (records : List Records) (asked : Asked) → IsAsked asked → AreGood contents (logs_of config) records
      → start_of asked (receivers_of config.receivers records) < START_LIMIT
  start_in_range config records asked is good =
      start_is_early asked.start (first_time (receivers_of config.receivers records)) is.start (least_is_early _ (are_early 1 config.receivers records good))

  pub in_range : (config : PlainConfig) (records : List Records) (asked : Asked) → IsAsked asked → 1 ≤ length config.receivers
      → AreGood contents (logs_of config) records → IsWindow (window_of asked (receivers_of config.receivers records))
  in_range config records asked is some good =
      let receivers = receivers_of config.receivers records in
      record {
        some_station = some_is_heard 1 config.receivers records some good;
        stations = at_most_four receivers;
        start = start_in_range config records asked is good;
        phase = phase_in_range (start_of asked receivers) asked.seconds receivers;
        not_short = is.not_short;
        not_long = is.not_long;
        not_empty = is.not_empty;
        century = is.century;
      }
