-- The receivers of a bank, from its lists; and the stations and times of its window.
use Rattle.std.proofs.Common.{◌≡◌, ℕ, List, [], ◌∷◌, ◌++◌, All, length, map, fold, min, Option, Some, unwrap_or, refl, sym, ap, ◌∙◌, arith}
use Rattle.std.specs.List.{flat_map}
use Rattle.std.proofs.lemmas.List.Elements.{All-map}
use Rattle.signal_base.specs.declared.station.Station.{Station}
use Rattle.signal_base.specs.declared.station.Station.TheVariants.{Dcf77, Msf, Wwvb, Jjy}
use Rattle.signal_base.specs.declared.tuning.Tuning.{Tuning}
use Rattle.signal_base.specs.Limits.{IsTuned}
use Rattle.definitions.specs.heard.Costs.{least}
use Rattle.definitions.specs.heard.Logs.{Records}
use Rattle.definitions.specs.heard.Receivers.{receptions}
use Rattle.align.specs.Receivers.{receivers}
use Rattle.bank_config.specs.declared.config.Receiver.{Receiver as Entry}
use Rattle.bank_config.specs.Configuration.{plain_receiver}
use Rattle.bank_config.specs.InRange.{IsReceiverInRange}
use Rattle.due.specs.Banks.{first_time, first_times, is_heard, receivers_of, stations_heard}
use Rattle.bank.specs.Hearing.{earlier, is_among, stations_among, times_of}

-- the receivers of a configuration with their logs, from the lists of their stations and tunings
pub receivers_are : (rs : List Entry) (logs : List Records)
    → receivers (map (λ r. r.station) rs) (receptions (map (λ r. r.tuning) rs) logs) ≡ receivers_of (map plain_receiver rs) logs
receivers_are [] logs = refl
receivers_are (r ∷ rs) [] = refl
receivers_are (r ∷ rs) (log ∷ logs) = rw (receivers_are rs logs) refl

-- tunings of receivers in their ranges
pub all_tuned : (rs : List Entry) → All IsReceiverInRange rs → All IsTuned (map (λ r. r.tuning) rs)
all_tuned rs all = All-map IsTuned (λ (r : Entry). r.tuning) rs (λ k d h. (all k d h).tuned)

-- a station is heard where it is among the stations
pub heard_is_among : (ss : List Station) (ts : List Tuning) (logs : List Records) (station : Station) → length ts ≡ length ss → length logs ≡ length ss
    → is_heard (receivers ss (receptions ts logs)) station ≡ is_among ss station
heard_is_among [] ts logs station e f = refl
heard_is_among (s ∷ ss) [] logs station e f = absurd (omega arith)
heard_is_among (s ∷ ss) (t ∷ ts) [] station e f = absurd (omega arith)
heard_is_among (s ∷ ss) (t ∷ ts) (log ∷ logs) station e f =
    rw (heard_is_among ss ts logs station (omega arith) (omega arith)) refl

-- so the stations that are heard are those of the list
pub stations_are : (ss : List Station) (ts : List Tuning) (logs : List Records) → length ts ≡ length ss → length logs ≡ length ss
    → stations_among ss ≡ stations_heard (receivers ss (receptions ts logs))
stations_are ss ts logs e f =
    rw (heard_is_among ss ts logs Dcf77 e f, heard_is_among ss ts logs Msf e f, heard_is_among ss ts logs Wwvb e f, heard_is_among ss ts logs Jjy e f) refl

-- the first times of the receivers' logs are those of the logs
pub times_are : (ss : List Station) (ts : List Tuning) (logs : List Records) → length ts ≡ length ss → length logs ≡ length ss
    → flat_map (λ r. first_times r.heard.log) (receivers ss (receptions ts logs)) ≡ times_of logs
times_are [] [] [] e f = refl
times_are [] [] (log ∷ logs) e f = absurd (omega arith)
times_are [] (t ∷ ts) logs e f = absurd (omega arith)
times_are (s ∷ ss) [] logs e f = absurd (omega arith)
times_are (s ∷ ss) (t ∷ ts) [] e f = absurd (omega arith)
times_are (s ∷ ss) (t ∷ ts) (log ∷ logs) e f = rw (times_are ss ts logs (omega arith) (omega arith)) refl

pub time_is : (ss : List Station) (ts : List Tuning) (logs : List Records) → length ts ≡ length ss → length logs ≡ length ss
    → unwrap_or (least (times_of logs)) 0 ≡ first_time (receivers ss (receptions ts logs))
time_is ss ts logs e f = rw (times_are ss ts logs e f) refl

-- the least time with one more log
pub earlier_least : (times : List ℕ) (log : Records) → earlier (least times) log ≡ least (times ++ first_times log)
earlier_least [] [] = refl
earlier_least [] (r ∷ rs) = refl
earlier_least (t ∷ times) [] = ap (λ (ts : List ℕ). least (t ∷ ts)) (sym (append_nil times))
  where
    append_nil : (xs : List ℕ) → xs ++ [] ≡ xs
    append_nil [] = refl
    append_nil (x ∷ xs) = ap (λ (ys : List ℕ). x ∷ ys) (append_nil xs)
earlier_least (t ∷ times) (r ∷ rs) = ap (λ (n : ℕ). Some n) (more t times)
  where
    more : (a : ℕ) (xs : List ℕ) → min (fold min a xs) r.0 ≡ fold min a (xs ++ r.0 ∷ [])
    more a [] = refl
    more a (x ∷ xs) = more (min a x) xs

pub times_more : (logs : List Records) (log : Records) → times_of (logs ++ log ∷ []) ≡ times_of logs ++ first_times log
times_more [] [] = refl
times_more [] (r ∷ rs) = refl
times_more (l ∷ logs) log = rw (times_more logs log) (joined (first_times l) (times_of logs) (first_times log))
  where
    joined : (a b c : List ℕ) → a ++ (b ++ c) ≡ (a ++ b) ++ c
    joined [] b c = refl
    joined (x ∷ a) b c = ap (λ (ys : List ℕ). x ∷ ys) (joined a b c)

pub least_more : (logs : List Records) (log : Records) (first : Option ℕ) → first ≡ least (times_of logs) → earlier first log ≡ least (times_of (logs ++ log ∷ []))
least_more logs log first is = rw is (earlier_least (times_of logs) log ∙ ap least (sym (times_more logs log)))

pub receivers_from : (rs : List Entry) (ss : List Station) (ts : List Tuning) (logs : List Records) → ss ≡ map (λ r. r.station) rs → ts ≡ map (λ r. r.tuning) rs
    → receivers ss (receptions ts logs) ≡ receivers_of (map plain_receiver rs) logs
receivers_from rs ss ts logs e f = rw (e, f) (receivers_are rs logs)
