-- Where the receivers of a configuration stand in a bank that is in the order of its stations.
use Rattle.std.proofs.Common.{◌≡◌, ℕ, zero, suc, ◌+◌, ◌<◌, ◌==◌, ◌||◌, Bool, true, false, if◌then◌else◌, List, [], ◌∷◌, ◌++◌, length, get_or, map, take, refl, sym, ap, ◌∙◌, arith, eq-eqb}
use Rattle.std.specs.List.{range_with_len}
use Rattle.std.proofs.lemmas.List.{length-append, length-map, get_or_append_left, get_or-append-add}
use Rattle.std.proofs.lemmas.List.FromFn.{get_or-map-range_with_len, length-map-range_with_len}
use Rattle.signal_base.specs.declared.station.Station.{Station}
use Rattle.signal_base.specs.declared.station.Station.TheVariants.{Dcf77, Msf, Wwvb, Jjy}
use Rattle.signal_base.specs.declared.tuning.Tuning.{Tuning}
use Rattle.signal_base.specs.Number.{number_of}
use Rattle.definitions.specs.heard.Logs.{Records}
use Rattle.definitions.specs.heard.Receivers.{Receiver, receptions}
use Rattle.align.specs.Receivers.{receivers}
use Rattle.due.specs.Banks.{by_station, is_heard, listening_to}
use Rattle.bank.specs.declared.hearing.Bank.{Bank}
use Rattle.bank.specs.Hearing.{IsBank, bank_seen, count_before, count_of}
use Rattle.heard.specs.Kept.{place_in, places_in, receiver_at, station_at, untuned}

-- the stations of receivers
abbrev pub their_stations : List Receiver → List Station
their_stations rs = map (λ r. r.station) rs

-- a receiver that listens to a station stands among those of the station behind those before it
abbrev StandsAmong : Station → List Receiver → ℕ → Receiver → Type 0
StandsAmong s rs i d =
    let k = count_of s (take i (their_stations rs)) in
    (k < length (listening_to s rs)) × (get_or (listening_to s rs) k d ≡ get_or rs i d)

among : (s : Station) (rs : List Receiver) (i : ℕ) (d : Receiver) → i < length rs → (get_or rs i d).station ≡ s → StandsAmong s rs i d
among s [] i d within is = absurd (omega arith)
among s (r ∷ rs) zero d within is =
    let kept : (number_of r.station == number_of s) ≡ true = eq-eqb (number_of r.station) (number_of s) (ap number_of is) in
    rw kept (omega arith, refl)
among s (r ∷ rs) (suc i) d within is = by_test (number_of r.station == number_of s) refl (among s rs i d (omega arith) is)
  where
    k : ℕ
    k = count_of s (take i (their_stations rs))

    by_test : (b : Bool) → (number_of r.station == number_of s) ≡ b → StandsAmong s rs i d → StandsAmong s (r ∷ rs) (suc i) d
    by_test true e rest = rw e (omega (arith, rest.0), rest.1)
    by_test false e rest = rw e rest

-- how many listen to a station
count_is : (s : Station) (rs : List Receiver) → length (listening_to s rs) ≡ count_of s (their_stations rs)
count_is s [] = refl
count_is s (r ∷ rs) = by_test (number_of r.station == number_of s) (count_is s rs)
  where
    by_test : (b : Bool) → length (listening_to s rs) ≡ count_of s (their_stations rs)
        → length (if b then r ∷ listening_to s rs else listening_to s rs) ≡ (if b then suc (count_of s (their_stations rs)) else count_of s (their_stations rs))
    by_test true rest = ap suc rest
    by_test false rest = rest

-- and how many to those before it
before_dcf : (ss : List Station) → count_before Dcf77 ss ≡ 0
before_dcf [] = refl
before_dcf (Dcf77 ∷ ss) = before_dcf ss
before_dcf (Msf ∷ ss) = before_dcf ss
before_dcf (Wwvb ∷ ss) = before_dcf ss
before_dcf (Jjy ∷ ss) = before_dcf ss

before_msf : (ss : List Station) → count_before Msf ss ≡ count_of Dcf77 ss
before_msf [] = refl
before_msf (Dcf77 ∷ ss) = ap suc (before_msf ss)
before_msf (Msf ∷ ss) = before_msf ss
before_msf (Wwvb ∷ ss) = before_msf ss
before_msf (Jjy ∷ ss) = before_msf ss

before_wwvb : (ss : List Station) → count_before Wwvb ss ≡ count_of Dcf77 ss + count_of Msf ss
before_wwvb [] = refl
before_wwvb (Dcf77 ∷ ss) = omega (arith, before_wwvb ss)
before_wwvb (Msf ∷ ss) = omega (arith, before_wwvb ss)
before_wwvb (Wwvb ∷ ss) = before_wwvb ss
before_wwvb (Jjy ∷ ss) = before_wwvb ss

before_jjy : (ss : List Station) → count_before Jjy ss ≡ count_of Dcf77 ss + count_of Msf ss + count_of Wwvb ss
before_jjy [] = refl
before_jjy (Dcf77 ∷ ss) = omega (arith, before_jjy ss)
before_jjy (Msf ∷ ss) = omega (arith, before_jjy ss)
before_jjy (Wwvb ∷ ss) = omega (arith, before_jjy ss)
before_jjy (Jjy ∷ ss) = before_jjy ss

-- what stands in a list behind another
past : (a rest : List Receiver) (p k : ℕ) (d : Receiver) → p ≡ length a + k → get_or (a ++ rest) p d ≡ get_or rest k d
past a rest p k d e = ap (λ n. get_or (a ++ rest) n d) e ∙ get_or-append-add a rest k d

in_front : (a rest : List Receiver) (k : ℕ) (d : Receiver) → k < length a → get_or (a ++ rest) k d ≡ get_or a k d
in_front a rest k d lt = get_or_append_left a rest d k lt

-- a receiver has its place in the order of stations
abbrev HasPlace : List Receiver → ℕ → Receiver → Type 0
HasPlace rs i d =
    (place_in (their_stations rs) i < length (by_station rs)) × (get_or (by_station rs) (place_in (their_stations rs) i) d ≡ get_or rs i d)

module _ (rs : List Receiver) where
  abbrev ss : List Station
  ss = their_stations rs

  abbrev of : Station → List Receiver
  of s = listening_to s rs

  all_of : length (by_station rs) ≡ length (of Dcf77) + (length (of Msf) + (length (of Wwvb) + length (of Jjy)))
  all_of =
      let one = length-append (of Dcf77) (of Msf ++ (of Wwvb ++ (of Jjy ++ []))) in
      let two = length-append (of Msf) (of Wwvb ++ (of Jjy ++ [])) in
      let three = length-append (of Wwvb) (of Jjy ++ []) in
      let four = length-append (of Jjy) [] in
      omega arith

  by_its_station : (s : Station) (k : ℕ) (d x : Receiver) → k < length (of s) → get_or (of s) k d ≡ x
      → (count_before s ss + k < length (by_station rs)) × (get_or (by_station rs) (count_before s ss + k) d ≡ x)
  by_its_station Dcf77 k d x lt is =
      let first : count_before Dcf77 ss + k ≡ k = omega (arith, before_dcf ss) in (
        omega (arith, first, lt, all_of),
        ap (λ n. get_or (by_station rs) n d) first ∙ in_front (of Dcf77) (of Msf ++ (of Wwvb ++ (of Jjy ++ []))) k d lt ∙ is,
      )
  by_its_station Msf k d x lt is =
      let first : count_before Msf ss + k ≡ length (of Dcf77) + k = omega (arith, before_msf ss, count_is Dcf77 rs) in (
        omega (arith, first, lt, all_of),
        past (of Dcf77) (of Msf ++ (of Wwvb ++ (of Jjy ++ []))) (count_before Msf ss + k) k d first
            ∙ in_front (of Msf) (of Wwvb ++ (of Jjy ++ [])) k d lt ∙ is,
      )
  by_its_station Wwvb k d x lt is =
      let first : count_before Wwvb ss + k ≡ length (of Dcf77) + (length (of Msf) + k) = omega (arith, before_wwvb ss, count_is Dcf77 rs, count_is Msf rs) in (
        omega (arith, first, lt, all_of),
        past (of Dcf77) (of Msf ++ (of Wwvb ++ (of Jjy ++ []))) (count_before Wwvb ss + k) (length (of Msf) + k) d first
            ∙ past (of Msf) (of Wwvb ++ (of Jjy ++ [])) (length (of Msf) + k) k d refl
            ∙ in_front (of Wwvb) (of Jjy ++ []) k d lt ∙ is,
      )
  by_its_station Jjy k d x lt is =
      let first : count_before Jjy ss + k ≡ length (of Dcf77) + (length (of Msf) + (length (of Wwvb) + k)) =
      omega (arith, before_jjy ss, count_is Dcf77 rs, count_is Msf rs, count_is Wwvb rs) in (
        omega (arith, first, lt, all_of),
        past (of Dcf77) (of Msf ++ (of Wwvb ++ (of Jjy ++ []))) (count_before Jjy ss + k) (length (of Msf) + (length (of Wwvb) + k)) d first
            ∙ past (of Msf) (of Wwvb ++ (of Jjy ++ [])) (length (of Msf) + (length (of Wwvb) + k)) (length (of Wwvb) + k) d refl
            ∙ past (of Wwvb) (of Jjy ++ []) (length (of Wwvb) + k) k d refl
            ∙ in_front (of Jjy) [] k d lt ∙ is,
      )

  station_of : (i : ℕ) (d : Receiver) (rs : List Receiver) → i < length rs → station_at (their_stations rs) i ≡ (get_or rs i d).station
  station_of i d [] within = absurd (omega arith)
  station_of zero d (r ∷ rs) within = refl
  station_of (suc i) d (r ∷ rs) within = station_of i d rs (omega arith)

  pub has_place : (i : ℕ) (d : Receiver) → i < length rs → HasPlace rs i d
  has_place i d within =
      let s = station_at ss i in
      let its = among s rs i d within (sym (station_of i d rs within)) in
      by_its_station s (count_of s (take i ss)) d (get_or rs i d) its.0 its.1

-- a receiver of a bank, by the lists of the bank
length_zipped : (ss : List Station) (ts : List Tuning) (logs : List Records) → length ts ≡ length ss → length logs ≡ length ss
    → length (receivers ss (receptions ts logs)) ≡ length ss
length_zipped [] ts logs e f = refl
length_zipped (s ∷ ss) [] logs e f = absurd (omega arith)
length_zipped (s ∷ ss) (t ∷ ts) [] e f = absurd (omega arith)
length_zipped (s ∷ ss) (t ∷ ts) (l ∷ ls) e f = ap suc (length_zipped ss ts ls (omega arith) (omega arith))

at_place : (ss : List Station) (ts : List Tuning) (logs : List Records) (p : ℕ) (d : Receiver) → length ts ≡ length ss → length logs ≡ length ss → p < length ss
    → get_or (receivers ss (receptions ts logs)) p d
    ≡ record { station = station_at ss p; heard = record { tuning = get_or ts p untuned; log = get_or logs p [] } }
at_place [] ts logs p d e f within = absurd (omega arith)
at_place (s ∷ ss) [] logs p d e f within = absurd (omega arith)
at_place (s ∷ ss) (t ∷ ts) [] p d e f within = absurd (omega arith)
at_place (s ∷ ss) (t ∷ ts) (l ∷ ls) zero d e f within = refl
at_place (s ∷ ss) (t ∷ ts) (l ∷ ls) (suc p) d e f within = at_place ss ts ls p d (omega arith) (omega arith) (omega arith)

-- a list whose items a function of the place gives
made_from : {X : Type 0} (f : ℕ → X) (xs : List X) (a : ℕ) → ((i : ℕ) (d : X) → i < length xs → f (a + i) ≡ get_or xs i d) → map f (range_with_len a (length xs)) ≡ xs
made_from f [] a each = refl
made_from f (x ∷ xs) a each =
    let first : a + 0 ≡ a = omega arith in
    let head : f a ≡ x = ap f (sym first) ∙ each 0 x (omega arith) in
    let tail = made_from f xs (a + 1) (λ i d within. (let same : a + 1 + i ≡ a + suc i = omega arith in ap f same ∙ each (suc i) d (omega arith))) in
    cc

made_twice : {A B C : Type 0} (f : B → C) (g : A → B) (xs : List A) → map f (map g xs) ≡ map (λ x. f (g x)) xs
made_twice f g [] = refl
made_twice f g (x ∷ xs) = ap (λ ys. f (g x) ∷ ys) (made_twice f g xs)

-- a bank in the order of stations of these receivers
module _ (b : Bank) (is : IsBank b) (rs : List Receiver) (order : (bank_seen b).receivers ≡ by_station rs) where
  total : length (by_station rs) ≡ length b.stations.items
  total = ap length (sym order) ∙ length_zipped b.stations.items b.tunings.items b.logs.items is.tunings is.logs

  pub at : (i : ℕ) (d : Receiver) → i < length rs → receiver_at b (place_in (their_stations rs) i) ≡ get_or rs i d
  at i d within =
      let place = has_place rs i d within in
      sym (at_place b.stations.items b.tunings.items b.logs.items (place_in (their_stations rs) i) d is.tunings is.logs (omega (arith, place.0, total)))
      ∙ ap (λ (all : List Receiver). get_or all (place_in (their_stations rs) i) d) order ∙ place.1

  pub count : length (places_in (their_stations rs)) ≡ length rs
  count = length-map-range_with_len (place_in (their_stations rs)) 0 (length (their_stations rs)) ∙ length-map rs (λ (r : Receiver). r.station)

  -- the receivers at the places are those of the configuration
  pub same_receivers : map (receiver_at b) (places_in (their_stations rs)) ≡ rs
  same_receivers =
      made_twice (receiver_at b) (place_in (their_stations rs)) (range_with_len 0 (length (their_stations rs)))
      ∙ ap (λ n. map (λ i. receiver_at b (place_in (their_stations rs) i)) (range_with_len 0 n)) (length-map rs (λ (r : Receiver). r.station))
      ∙ made_from (λ i. receiver_at b (place_in (their_stations rs) i)) rs 0 (λ i d within. (let same : 0 + i ≡ i = omega arith in ap (λ k. receiver_at b (place_in (their_stations rs) k)) same ∙ at i d within))

  -- place i
  pub place_is : (i : ℕ) → i < length rs → get_or (places_in (their_stations rs)) i 0 ≡ place_in (their_stations rs) i
  place_is i within =
      let all = length-map rs (λ (r : Receiver). r.station) in
      let start : 0 + i ≡ i = omega arith in
      get_or-map-range_with_len (place_in (their_stations rs)) 0 (length (their_stations rs)) i i 0 (omega (arith, all, within)) start

  pub place_within : (i : ℕ) → i < length rs → get_or (places_in (their_stations rs)) i 0 < length b.stations.items
  place_within i within =
      let d : Receiver = receiver_at b 0 in
      let place = has_place rs i d within in
      omega (arith, place_is i within, place.0, total)

  pub place_station : (i : ℕ) (d : Receiver) → i < length rs → station_at b.stations.items (get_or (places_in (their_stations rs)) i 0) ≡ (get_or rs i d).station
  place_station i d within =
      ap (station_at b.stations.items) (place_is i within) ∙ ap (λ (r : Receiver). r.station) (at i d within)

-- each receiver listens to a station that is heard
pub is_heard_at : (rs : List Receiver) (i : ℕ) (d : Receiver) → i < length rs → is_heard rs (get_or rs i d).station ≡ true
is_heard_at [] i d within = absurd (omega arith)
is_heard_at (r ∷ rs) zero d within = rw (eq-eqb (number_of r.station) (number_of r.station) refl) refl
is_heard_at (r ∷ rs) (suc i) d within = by_test (number_of r.station == number_of (get_or rs i d).station) (is_heard_at rs i d (omega arith))
  where
    by_test : (b : Bool) → is_heard rs (get_or rs i d).station ≡ true → (b || is_heard rs (get_or rs i d).station) ≡ true
    by_test true rest = refl
    by_test false rest = rest
