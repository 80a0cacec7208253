-- Slots, stations and receivers share what a sequence costs.
use Rattle.std.proofs.Common.{◌≡◌, ℕ, zero, suc, ◌+◌, ◌*◌, Bool, true, false, ◌==◌, ◌&&◌, if◌then◌else◌, List, [], ◌∷◌, map, filter, sum_by, Option, Some, None, option_map, unwrap_or, ℤ, refl, sym, ap, ◌∙◌, arith}
use Rattle.std.specs.List.{list_all}
use Rattle.std.proofs.lemmas.Bool.{and_parts}
use Rattle.std.proofs.lemmas.List.Sums.{sum_by-cons}
use Rattle.signal_base.specs.Mask.{has_bit}
use Rattle.signal_base.specs.Number.{number_of}
use Rattle.signal_base.specs.declared.station.Station.{Station}
use Rattle.signal_base.specs.declared.station.Station.TheVariants.{Dcf77, Msf, Wwvb, Jjy}
use Rattle.signal_base.specs.declared.station.Stations.{Stations}
use Rattle.signal_base.specs.declared.window.Window.{Window}
use Rattle.definitions.specs.declared.sequence.Sequence.{Sequence}
use Rattle.definitions.specs.codes.Allowed.{has_station, stations_of}
use Rattle.definitions.specs.codes.Vocabulary.{unscored}
use Rattle.definitions.specs.time.Places.{second_of}
use Rattle.definitions.specs.sequences.Walks.{place_at, set_at}
use Rattle.definitions.specs.heard.Dut1.{is_dut1_second, dut1_symbol, dut1_values}
use Rattle.definitions.specs.heard.Receivers.{Reception, Receiver, heard_of}
use Rattle.definitions.specs.heard.Costs.{Costs, cost_outside_dut1, dut1_cost, least, least_dut1_cost, second_cost, sequence_cost, set_cost, station_cost, sum_below, symbols_of}
use Rattle.formats.specs.Heard.{Hearing, Numbered, cheapest, cost_of, costs_of, numbered_from, numbered, receiver_heard, receiver_sum, receiver_sums, receivers_heard, sent_in, slot_heard, slot_of, symbol_of_set, tells_one_value, told_value}
use Rattle.formats.proofs.CheapestLaws.{cheapest_costs}

-- sums of nothing, of the same terms, of two sums
none_below : (n : ℕ) → sum_below n (λ k. 0) ≡ 0
unfolding sum_below
none_below zero = refl
none_below (suc n) = omega (arith, none_below n)

same_below : (n : ℕ) (f g : ℕ → ℕ) → ((k : ℕ) → f k ≡ g k) → sum_below n f ≡ sum_below n g
same_below n f g h = let same : f ≡ g = λ i k. h k i in ap (sum_below n) same

both_below : (n : ℕ) (f g : ℕ → ℕ) → sum_below n (λ k. f k + g k) ≡ sum_below n f + sum_below n g
unfolding sum_below
both_below zero f g = refl
both_below (suc n) f g = omega (arith, both_below n f g)

plus : {a b c d : ℕ} → a ≡ b → c ≡ d → a + c ≡ b + d
plus e f = cc

module _ {A : Type 0} where
  none_by : (xs : List A) → sum_by (λ x. 0) xs ≡ 0
  none_by [] = refl
  none_by (x ∷ xs) = omega (arith, sum_by-cons (λ y. 0) x xs, none_by xs)

  same_by : (f g : A → ℕ) (xs : List A) → ((x : A) → f x ≡ g x) → sum_by f xs ≡ sum_by g xs
  same_by f g xs h = let same : f ≡ g = λ i x. h x i in ap (λ t. sum_by t xs) same

  -- a sum over slots of sums over a list is the sum over the list of sums over slots
  exchanged : (n : ℕ) (f : A → ℕ → ℕ) (xs : List A) → sum_below n (λ k. sum_by (λ x. f x k) xs) ≡ sum_by (λ x. sum_below n (f x)) xs
  exchanged n f [] = none_below n
  exchanged n f (x ∷ xs) =
      same_below n _ _ (λ k. sum_by-cons (λ y. f y k) x xs) ∙ both_below n (f x) (λ k. sum_by (λ y. f y k) xs)
      ∙ plus refl (exchanged n f xs) ∙ sym (sum_by-cons (λ y. sum_below n (f y)) x xs)

  -- what a symbol costs several together, that there may be
  shared_by : (f : A → ℕ → ℕ) (o : Option ℕ) (xs : List A) → sum_by (λ x. cost_of (f x) o) xs ≡ cost_of (λ s. sum_by (λ x. f x s) xs) o
  shared_by f None xs = none_by xs
  shared_by f (Some s) xs = refl

  -- a sum over what is made of a list
  made_by : {B : Type 0} (f : B → ℕ) (g : A → B) (xs : List A) → sum_by f (map g xs) ≡ sum_by (λ x. f (g x)) xs
  made_by f g [] = refl
  made_by f g (x ∷ xs) = sum_by-cons f (g x) (map g xs) ∙ plus refl (made_by f g xs) ∙ sym (sum_by-cons (λ y. f (g y)) x xs)

  -- a sum over those of a list that pass a test
  kept_by : (p : A → Bool) (f : A → ℕ) (xs : List A) → sum_by f (filter p xs) ≡ sum_by (λ x. if p x then f x else 0) xs
  kept_by p f [] = refl
  kept_by p f (x ∷ xs) = by_test (p x) refl (kept_by p f xs)
    where
      by_test : (b : Bool) → p x ≡ b → sum_by f (filter p xs) ≡ sum_by (λ y. if p y then f y else 0) xs → sum_by f (if b then x ∷ filter p xs else filter p xs) ≡ sum_by (λ y. if p y then f y else 0) (x ∷ xs)
      by_test true e rest =
          let term : f x ≡ (if p x then f x else 0) = ap (λ b. if b then f x else 0) (sym e) in
          omega (arith, term, sum_by-cons f x (filter p xs), rest, sum_by-cons (λ y. if p y then f y else 0) x xs)
      by_test false e rest =
          let term : 0 ≡ (if p x then f x else 0) = ap (λ b. if b then f x else 0) (sym e) in
          omega (arith, term, rest, sum_by-cons (λ y. if p y then f y else 0) x xs)

-- a set costs what its symbol does
set_shares : (station : Station) (costs : ℕ → ℕ) (set : ℕ) → cost_of costs (symbol_of_set station costs set) ≡ set_cost station costs set
set_shares station costs set = by_scored (set == unscored)
  where
    xs : List ℕ
    xs = filter (has_bit set) (symbols_of station)

    by_scored : (b : Bool) → cost_of costs (if b then None else cheapest costs xs) ≡ (if b then 0 else unwrap_or (least (map costs xs)) 0)
    by_scored true = refl
    by_scored false = cheapest_costs costs xs

-- a station over n slots
module _ (station : Station) (costs : ℕ → ℕ → ℕ) (n : ℕ) (q : Sequence) where
  abbrev second : ℕ → ℕ
  second k = second_of (place_at q k)

  abbrev tells : ℕ → Bool
  tells k = is_dut1_second station (second k)

  abbrev in_set : ℕ → ℕ
  in_set k = set_cost station (costs k) (set_at station q k)

  -- the parts of the seconds that tell DUT1, by what value they tell, and of the others
  abbrev of_value : Option ℤ → ℕ → ℕ
  of_value o k = if tells k then cost_of (costs k) (option_map (λ d. dut1_symbol station d (second k)) o) else 0

  abbrev untold : ℕ → ℕ
  untold k = if tells k then 0 else in_set k

  parted : (k : ℕ) (o : Option ℤ) (b : Bool)
      → cost_of (costs k) (if b then option_map (λ d. dut1_symbol station d (second k)) o else symbol_of_set station (costs k) (set_at station q k))
      ≡ (if b then 0 else in_set k) + (if b then cost_of (costs k) (option_map (λ d. dut1_symbol station d (second k)) o) else 0)
  parted k o true = omega arith
  parted k o false = omega (arith, set_shares station (costs k) (set_at station q k))

  no_value : (b : Bool) → ◌≡◌ {A = ℕ} (if b then 0 else 0) 0
  no_value true = refl
  no_value false = refl

  value_shares : (o : Option ℤ) → sum_below n (of_value o) ≡ cost_of (dut1_cost station costs n q) o
  value_shares None = same_below n (of_value None) (λ k. 0) (λ k. no_value (tells k)) ∙ none_below n
  value_shares (Some d) = refl

  by_day : (one : Bool)
      → sum_below n (λ k. cost_of (costs k) (if one && tells k then option_map (λ d. dut1_symbol station d (second k)) (told_value station costs n q) else symbol_of_set station (costs k) (set_at station q k)))
      ≡ (if one then cost_outside_dut1 station costs n q + least_dut1_cost station costs n q else sum_below n in_set)
  by_day false = same_below n _ in_set (λ k. set_shares station (costs k) (set_at station q k))
  by_day true =
      let o = told_value station costs n q in
      same_below n _ (λ k. untold k + of_value o k) (λ k. parted k o (tells k)) ∙ both_below n untold (of_value o)
      ∙ plus refl (value_shares o ∙ cheapest_costs (dut1_cost station costs n q) (dut1_values station))

  pub station_shares : sum_below n (λ k. cost_of (costs k) (if tells_one_value station n q && tells k then option_map (λ d. dut1_symbol station d (second k)) (told_value station costs n q) else symbol_of_set station (costs k) (set_at station q k))) ≡ station_cost station costs n q
  station_shares = by_day (tells_one_value station n q)

pub station_law : (costs : Costs) (n : ℕ) (q : Sequence) (station : Station) → sum_below n (λ k. (slot_heard costs n q k station).cost) ≡ station_cost station (costs station) n q
station_law costs n q station = station_shares station (costs station) n q

pub sequence_law : (costs : Costs) (window : Window) (q : Sequence)
    → sum_below window.seconds (λ k. sum_by (λ station. (slot_heard costs window.seconds q k station).cost) (stations_of window.stations)) ≡ sequence_cost costs window q
sequence_law costs window q =
    exchanged window.seconds (λ station k. (slot_heard costs window.seconds q k station).cost) (stations_of window.stations)
    ∙ same_by _ _ (stations_of window.stations) (station_law costs window.seconds q)

-- stations of one number are one
same_station : (s t : Station) → (number_of s == number_of t) ≡ true → s ≡ t
same_station Dcf77 Dcf77 e = refl
same_station Dcf77 Msf e = cc
same_station Dcf77 Wwvb e = cc
same_station Dcf77 Jjy e = cc
same_station Msf Dcf77 e = cc
same_station Msf Msf e = refl
same_station Msf Wwvb e = cc
same_station Msf Jjy e = cc
same_station Wwvb Dcf77 e = cc
same_station Wwvb Msf e = cc
same_station Wwvb Wwvb e = refl
same_station Wwvb Jjy e = cc
same_station Jjy Dcf77 e = cc
same_station Jjy Msf e = cc
same_station Jjy Wwvb e = cc
same_station Jjy Jjy e = refl

-- one receiver more counts at its station alone
counted_once : (p : Station → Bool) (f : Station → ℕ) (c : ℕ) (own : Station) → p own ≡ true
    → sum_by (λ s. if p s then (if number_of own == number_of s then c + f s else f s) else 0) (Dcf77 ∷ Msf ∷ Wwvb ∷ Jjy ∷ [])
    ≡ c + sum_by (λ s. if p s then f s else 0) (Dcf77 ∷ Msf ∷ Wwvb ∷ Jjy ∷ [])
counted_once p f c Dcf77 e = rw e (omega arith)
counted_once p f c Msf e = rw e (omega arith)
counted_once p f c Wwvb e = rw e (omega arith)
counted_once p f c Jjy e = rw e (omega arith)

in_stations : (stations : Stations) (f : Station → ℕ) (c : ℕ) (own : Station) → has_station stations own ≡ true
    → sum_by (λ s. if number_of own == number_of s then c + f s else f s) (stations_of stations) ≡ c + sum_by f (stations_of stations)
in_stations stations f c own e =
    kept_by (has_station stations) (λ s. if number_of own == number_of s then c + f s else f s) (Dcf77 ∷ Msf ∷ Wwvb ∷ Jjy ∷ [])
    ∙ counted_once (has_station stations) f c own e
    ∙ plus refl (sym (kept_by (has_station stations) f (Dcf77 ∷ Msf ∷ Wwvb ∷ Jjy ∷ [])))

-- the receivers of a station in slot k
module _ (h : Hearing) (k : ℕ) where
  abbrev cost_in : Numbered → ℕ
  cost_in r = (receiver_heard h k r).cost

  abbrev listens : Station → Numbered → Bool
  listens station r = number_of r.1.station == number_of station

  -- what those of them cost together that are numbered from m on
  abbrev together : ℕ → List Receiver → Station → ℕ
  together m rs station = sum_by (λ r. r.cost) (map (receiver_heard h k) (filter (listens station) (numbered_from m rs)))

  -- what a symbol costs a receiver, as the definition of costs says it
  abbrev at : Station → Reception → ℕ → ℕ
  at station r x = second_cost h.table r station (h.window.start + h.window.phase + r.tuning.delay + 1000 * k) x

  receivers_are_heard : (station : Station) (m : ℕ) (rs : List Receiver)
      → together m rs station ≡ sum_by (λ r. cost_of (at station r) (sent_in h k station)) (heard_of station rs)
  receivers_are_heard station m [] = refl
  receivers_are_heard station m (r ∷ rs) = by_test (number_of r.station == number_of station) refl (receivers_are_heard station (m + 1) rs)
    where
      others : List Numbered
      others = filter (listens station) (numbered_from (m + 1) rs)

      term : Reception → ℕ
      term s = cost_of (at station s) (sent_in h k station)

      by_test : (b : Bool) → (number_of r.station == number_of station) ≡ b
          → together (m + 1) rs station ≡ sum_by term (heard_of station rs)
          → sum_by (λ s. s.cost) (map (receiver_heard h k) (if b then (m, r) ∷ others else others))
          ≡ sum_by term (map (λ s. s.heard) (if b then r ∷ filter (λ s. number_of s.station == number_of station) rs else filter (λ s. number_of s.station == number_of station) rs))
      by_test true e rest =
          let first : cost_in (m, r) ≡ term r.heard = ap (λ s. cost_of (at s r.heard) (sent_in h k s)) (same_station r.station station e) in
          sum_by-cons (λ s. s.cost) (receiver_heard h k (m, r)) (map (receiver_heard h k) others)
          ∙ plus first rest ∙ sym (sum_by-cons term r.heard (heard_of station rs))
      by_test false e rest = rest

  pub slot_law : (station : Station) → sum_by (λ r. r.cost) (receivers_heard h k station) ≡ (slot_of h k station).cost
  slot_law station = receivers_are_heard station 1 h.receivers ∙ shared_by (at station) (sent_in h k station) (heard_of station h.receivers)

  one_more : (m : ℕ) (r : Receiver) (rs : List Receiver) (station : Station)
      → together m (r ∷ rs) station ≡ (if number_of r.station == number_of station then cost_in (m, r) + together (m + 1) rs station else together (m + 1) rs station)
  one_more m r rs station = by_test (number_of r.station == number_of station)
    where
      others : List Numbered
      others = filter (listens station) (numbered_from (m + 1) rs)

      by_test : (b : Bool) → sum_by (λ s. s.cost) (map (receiver_heard h k) (if b then (m, r) ∷ others else others))
          ≡ (if b then cost_in (m, r) + together (m + 1) rs station else together (m + 1) rs station)
      by_test true = sum_by-cons (λ s. s.cost) (receiver_heard h k (m, r)) (map (receiver_heard h k) others)
      by_test false = refl

  -- the receivers are shared among the stations
  by_stations : (stations : Stations) (m : ℕ) (rs : List Receiver) → list_all (λ r. has_station stations r.station) rs ≡ true
      → sum_by cost_in (numbered_from m rs) ≡ sum_by (together m rs) (stations_of stations)
  by_stations stations m [] all = sym (none_by (stations_of stations))
  by_stations stations m (r ∷ rs) all =
      let parts = and_parts (has_station stations r.station) (list_all (λ s. has_station stations s.station) rs) all in
      sum_by-cons cost_in (m, r) (numbered_from (m + 1) rs)
      ∙ plus refl (by_stations stations (m + 1) rs parts.1)
      ∙ sym (in_stations stations (together (m + 1) rs) (cost_in (m, r)) r.station parts.0)
      ∙ sym (same_by _ _ (stations_of stations) (one_more m r rs))

pub sums_law : (h : Hearing) → list_all (λ r. has_station h.window.stations r.station) h.receivers ≡ true
    → sum_by (λ r. r.cost) (receiver_sums h) ≡ sequence_cost (costs_of h) h.window h.sequence
sums_law h all =
    let n = h.window.seconds in
    let stations = stations_of h.window.stations in
    made_by (λ r. r.cost) (receiver_sum h) (numbered h)
    ∙ sym (exchanged n (λ r k. (receiver_heard h k r).cost) (numbered h))
    ∙ same_below n _ _ (λ k. by_stations h k h.window.stations 1 h.receivers all ∙ same_by _ _ stations (slot_law h k))
    ∙ sequence_law (costs_of h) h.window h.sequence
