-- What sequences and blocks cost at the most in a bank whose numbers are in their ranges.
use Rattle.std.proofs.Common.{◌≡◌, ℕ, zero, suc, ◌+◌, ◌*◌, ◌≤◌, min, ◌==◌, ◌&&◌, Bool, true, false, if◌then◌else◌, List, [], ◌∷◌, map, filter, fold, length, sum_by, Option, Some, None, refl, sym, subst, arith}
use Rattle.std.specs.Prelude.{ℤ, slice_index, slice_index_or, unwrap_or}
use Rattle.std.specs.List.{AllByRecursion}
use Rattle.std.specs.Option.{ForSome}
use Rattle.std.proofs.Math.Nat.{le_trans, mul-le-mul_left, mul-le-mul_right}
use Rattle.std.proofs.lemmas.List.Sums.{sum_by-cons}
use Rattle.signal_base.specs.declared.limits.TheConstants.{GREATEST_COST, MOST_COST, MOST_RECEIVERS, MOST_SECOND_COST, MOST_SECONDS, MOST_WEIGHT}
use Rattle.signal_base.specs.declared.station.Station.{Station}
use Rattle.signal_base.specs.declared.station.Station.TheVariants.{Dcf77, Msf, Wwvb, Jjy}
use Rattle.signal_base.specs.declared.station.Stations.{Stations}
use Rattle.signal_base.specs.declared.tuning.CostTable.{CostTable}
use Rattle.signal_base.specs.declared.window.Window.{Window}
use Rattle.signal_base.specs.Limits.{IsPriced, IsTuned}
use Rattle.signal_base.specs.Mask.{has_bit}
use Rattle.signal_base.specs.Number.{number_of}
use Rattle.signal_base.specs.Waveform.{waveform}
use Rattle.definitions.specs.declared.block.Block.{Block}
use Rattle.definitions.specs.declared.block.Span.{Span}
use Rattle.definitions.specs.declared.block.Span.TheVariants.{Year, Day, Hour, Minute}
use Rattle.definitions.specs.declared.sequence.Sequence.{Sequence}
use Rattle.definitions.specs.codes.Allowed.{has_station, stations_of}
use Rattle.definitions.specs.codes.Vocabulary.{unscored}
use Rattle.definitions.specs.time.Places.{second_of}
use Rattle.definitions.specs.heard.Costs.{Costs, bank_costs, cost_outside_dut1, counted, dut1_cost, least, least_dut1_cost, lies_in_one_day, second_cost, sequence_cost, set_cost, slot_cost, station_cost, sum_below, symbols_of, table_of, tenth_cost, tenths_cost}
use Rattle.definitions.specs.heard.Dut1.{dut1_symbol, dut1_values, has_dut1, is_dut1_second}
use Rattle.definitions.specs.heard.Logs.{Records, low_count}
use Rattle.definitions.specs.heard.Receivers.{Receiver, Reception, heard_of}
use Rattle.definitions.specs.sequences.Walks.{place_at, set_at}
use Rattle.definitions.specs.answers.Blocks.{IsBound, IsBoundBy, first_of, union_cost}
use Rattle.definitions.proofs.CapLaws.{counted_lower}
use Rattle.definitions.proofs.CostLaws.{sum_below_bound}

-- what a second costs a receiver at the most
abbrev receiver_slot : ℕ
receiver_slot = 200_000

weighed : (weight cost : ℕ) → weight ≤ MOST_WEIGHT → cost ≤ MOST_SECOND_COST → weight * cost ≤ receiver_slot
weighed weight cost light low = omega (arith, light, mul-le-mul_left weight low)

tenth : (table : CostTable) → IsPriced table → (is_low : Bool) (count : Option ℕ) → tenth_cost table is_low count ≤ MOST_COST
tenth table priced is_low None = omega arith
tenth table priced true (Some n) = priced.low n
tenth table priced false (Some n) = priced.high n

tenths : (table : CostTable) → IsPriced table → (log : Records) (m : ℕ) (wave : List Bool) → tenths_cost table log m wave ≤ MOST_SECOND_COST
tenths table priced log m wave =
    sum_below_bound 10 MOST_COST (λ j. tenth_cost table (slice_index_or wave j false) (low_count log (m + 100 * j) 100))
    (λ j lt. tenth table priced (slice_index_or wave j false) (low_count log (m + 100 * j) 100))

own_or : (own : Option CostTable) (table : CostTable) → ForSome own IsPriced → IsPriced table → IsPriced (unwrap_or own table)
own_or None table its priced = priced
own_or (Some own) table its priced = its own refl

module _ (table : CostTable) (priced : IsPriced table) where
  second : (r : Reception) (station : Station) (m x : ℕ) → IsTuned r.tuning → second_cost table r station m x ≤ receiver_slot
  second r station m x tuned =
      let own = table_of table r.tuning in
      let costs = λ (y : ℕ). tenths_cost own r.log m (waveform station y) in
      weighed r.tuning.weight (counted own.second station costs x) tuned.weight
      (le_trans (counted_lower own.second station costs x) (tenths own (own_or r.tuning.table table tuned.priced priced) r.log m (waveform station x)))

  slot : (station : Station) (begin k x : ℕ) (rs : List Reception) → AllByRecursion (λ (r : Reception). IsTuned r.tuning) rs
      → slot_cost table rs station begin k x ≤ receiver_slot * length rs
  slot station begin k x [] all = omega arith
  slot station begin k x (r ∷ rs) all =
      omega (
        arith,
        sum_by-cons (λ (r : Reception). second_cost table r station (begin + r.tuning.delay + 1000 * k) x) r rs,
        second r station (begin + r.tuning.delay + 1000 * k) x all.0,
        slot station begin k x rs all.1,
      )

-- the receivers of a station, and of all stations together
abbrev heard_at : List Receiver → Station → ℕ
heard_at rs station = length (heard_of station rs)

abbrev pub AreTuned : List Receiver → Type 0
AreTuned rs = AllByRecursion (λ (r : Receiver). IsTuned r.heard.tuning) rs

one_heard : (b : Bool) (r : Receiver) (rs : List Receiver) (station : Station) → IsTuned r.heard.tuning
    → AllByRecursion (λ (h : Reception). IsTuned h.tuning) (map (λ (r : Receiver). r.heard) (filter (λ (r : Receiver). number_of r.station == number_of station) rs))
    → AllByRecursion (λ (h : Reception). IsTuned h.tuning)
    (map (λ (r : Receiver). r.heard) (if b then r ∷ filter (λ (r : Receiver). number_of r.station == number_of station) rs else filter (λ (r : Receiver). number_of r.station == number_of station) rs))
one_heard true r rs station tuned rest = (tuned, rest)
one_heard false r rs station tuned rest = rest

heard_tuned : (station : Station) (rs : List Receiver) → AreTuned rs → AllByRecursion (λ (h : Reception). IsTuned h.tuning) (heard_of station rs)
heard_tuned station [] all = tt
heard_tuned station (r ∷ rs) all = one_heard (number_of r.station == number_of station) r rs station all.0 (heard_tuned station rs all.1)

abbrev one_more : Bool → ℕ
one_more b = if b then 1 else 0

count_more : (b : Bool) (r : Receiver) (rs : List Receiver) → length (map (λ (r : Receiver). r.heard) (if b then r ∷ rs else rs)) ≡ one_more b + length (map (λ (r : Receiver). r.heard) rs)
count_more true r rs = omega arith
count_more false r rs = omega arith

heard_more : (station : Station) (r : Receiver) (rs : List Receiver) → heard_at (r ∷ rs) station ≡ one_more (number_of r.station == number_of station) + heard_at rs station
heard_more station r rs = count_more (number_of r.station == number_of station) r (filter (λ (r : Receiver). number_of r.station == number_of station) rs)

abbrev heard_in_all : List Receiver → ℕ
heard_in_all rs = heard_at rs Dcf77 + heard_at rs Msf + heard_at rs Wwvb + heard_at rs Jjy

once : (s : Station) → one_more (number_of s == number_of Dcf77) + one_more (number_of s == number_of Msf) + one_more (number_of s == number_of Wwvb)
    + one_more (number_of s == number_of Jjy) ≡ 1
once Dcf77 = refl
once Msf = refl
once Wwvb = refl
once Jjy = refl

all_heard : (rs : List Receiver) → heard_in_all rs ≤ length rs
all_heard [] = omega arith
all_heard (r ∷ rs) =
    omega (arith, heard_more Dcf77 r rs, heard_more Msf r rs, heard_more Wwvb r rs, heard_more Jjy r rs, once r.station, all_heard rs)

-- a sum over the stations of a window is no more than that over all
sum_if : (f : Station → ℕ) (b : Bool) (s : Station) (ss : List Station) → sum_by f (if b then s ∷ ss else ss) ≤ f s + sum_by f ss
sum_if f true s ss = omega (arith, sum_by-cons f s ss)
sum_if f false s ss = omega arith

pub sum_stations : (f : Station → ℕ) (stations : Stations) → sum_by f (stations_of stations) ≤ f Dcf77 + f Msf + f Wwvb + f Jjy
sum_stations f stations =
    let last : List Station = if has_station stations Jjy then Jjy ∷ [] else [] in
    let two : List Station = if has_station stations Wwvb then Wwvb ∷ last else last in
    let three : List Station = if has_station stations Msf then Msf ∷ two else two in
    let all : sum_by f (stations_of stations) ≤ f Dcf77 + sum_by f three = sum_if f (has_station stations Dcf77) Dcf77 three in
    let rest : sum_by f three ≤ f Msf + sum_by f two = sum_if f (has_station stations Msf) Msf two in
    let more : sum_by f two ≤ f Wwvb + sum_by f last = sum_if f (has_station stations Wwvb) Wwvb last in
    let one : sum_by f last ≤ f Jjy + sum_by f [] = sum_if f (has_station stations Jjy) Jjy [] in
    let none : sum_by f [] ≡ 0 = refl in
    omega (arith, all, rest, more, one, none)

sum_of_small : (f g : Station → ℕ) → ((s : Station) → f s ≤ g s) → (stations : List Station) → sum_by f stations ≤ sum_by g stations
sum_of_small f g le [] = omega arith
sum_of_small f g le (s ∷ ss) = omega (arith, sum_by-cons f s ss, sum_by-cons g s ss, le s, sum_of_small f g le ss)

-- the least of some costs, each at most so much
fold_at_most : (b c : ℕ) (cs : List ℕ) → c ≤ b → fold min c cs ≤ b
fold_at_most b c [] le = le
fold_at_most b c (d ∷ cs) le = fold_at_most b (min c d) cs (omega (arith, le))

least_at_most : (b : ℕ) (cs : List ℕ) → AllByRecursion (λ c. c ≤ b) cs → unwrap_or (least cs) 0 ≤ b
least_at_most b [] all = omega arith
least_at_most b (c ∷ cs) all = fold_at_most b c cs all.0

all_mapped : (f : ℕ → ℕ) (b : ℕ) → ((x : ℕ) → f x ≤ b) → (xs : List ℕ) → AllByRecursion (λ c. c ≤ b) (map f xs)
all_mapped f b le [] = tt
all_mapped f b le (x ∷ xs) = (le x, all_mapped f b le xs)

unscored_or : (free : Bool) (n b : ℕ) → n ≤ b → (if free then 0 else n) ≤ b
unscored_or true n b le = omega arith
unscored_or false n b le = le

set_at_most : (station : Station) (f : ℕ → ℕ) (b set : ℕ) → ((x : ℕ) → f x ≤ b) → set_cost station f set ≤ b
set_at_most station f b set le =
    unscored_or (set == unscored) (unwrap_or (least (map f (filter (has_bit set) (symbols_of station)))) 0) b
    (least_at_most b (map f (filter (has_bit set) (symbols_of station))) (all_mapped f b le (filter (has_bit set) (symbols_of station))))

sum_both : (n : ℕ) (f g : ℕ → ℕ) → sum_below n f + sum_below n g ≡ sum_below n (λ k. f k + g k)
unfolding sum_below
sum_both zero f g = refl
sum_both (suc n) f g = omega (arith, sum_both n f g)

least_of : {V : Type 0} (a b : ℕ) (f : V → ℕ) (vs : List V) → ((v : V) → a + f v ≤ b) → a ≤ b → a + unwrap_or (least (map f vs)) 0 ≤ b
least_of a b f [] each alone = omega (arith, alone)
least_of a b f (v ∷ vs) each alone = below (f v) (each v) (map f vs)
  where
    below : (c : ℕ) → a + c ≤ b → (cs : List ℕ) → a + fold min c cs ≤ b
    below c le cs = let most = fold_at_most c c cs (omega arith) in omega (arith, le, most)

one_of_two : (tells : Bool) (x y b : ℕ) → x ≤ b → y ≤ b → (if tells then 0 else x) + (if tells then y else 0) ≤ b
one_of_two true x y b le also = omega (arith, also)
one_of_two false x y b le also = omega (arith, le)

by_day : (b : Bool) (x y n : ℕ) → x ≤ n → y ≤ n → (if b then x else y) ≤ n
by_day true x y n le also = le
by_day false x y n le also = also

outside_at_most : (tells : Bool) (x b : ℕ) → x ≤ b → (if tells then 0 else x) ≤ b
outside_at_most true x b le = omega arith
outside_at_most false x b le = le

-- what a station's sequence costs, where no symbol costs more than so much
module _ (station : Station) (costs : ℕ → ℕ → ℕ) (b n : ℕ) (le : (k x : ℕ) → costs k x ≤ b) where
  in_slots : (sets : ℕ → ℕ) → sum_below n (λ k. set_cost station (costs k) (sets k)) ≤ n * b
  in_slots sets = sum_below_bound n b (λ k. set_cost station (costs k) (sets k)) (λ k lt. set_at_most station (costs k) b (sets k) (le k))

  module _ (q : Sequence) where
    abbrev tells : ℕ → Bool
    tells k = is_dut1_second station (second_of (place_at q k))

    abbrev outside : ℕ → ℕ
    outside k = if is_dut1_second station (second_of (place_at q k)) then 0 else set_cost station (costs k) (set_at station q k)

    abbrev inside : ℤ → ℕ → ℕ
    inside d k = let s = second_of (place_at q k) in if is_dut1_second station s then costs k (dut1_symbol station d s) else 0

    with_value : (d : ℤ) → cost_outside_dut1 station costs n q + dut1_cost station costs n q d ≤ n * b
    with_value d =
        subst (λ m. m ≤ n * b) (sym (sum_both n outside (inside d)))
        (sum_below_bound n b (λ k. outside k + inside d k)
        (λ k lt. one_of_two (is_dut1_second station (second_of (place_at q k))) (set_cost station (costs k) (set_at station q k))
        (costs k (dut1_symbol station d (second_of (place_at q k)))) b (set_at_most station (costs k) b (set_at station q k) (le k)) (le k _)))

    alone : cost_outside_dut1 station costs n q ≤ n * b
    alone =
        sum_below_bound n b outside (λ k lt. outside_at_most (is_dut1_second station (second_of (place_at q k))) (set_cost station (costs k) (set_at station q k)) b
        (set_at_most station (costs k) b (set_at station q k) (le k)))

    in_station : station_cost station costs n q ≤ n * b
    in_station =
        by_day (has_dut1 station && lies_in_one_day n q) (cost_outside_dut1 station costs n q + least_dut1_cost station costs n q) _ (n * b)
        (least_of (cost_outside_dut1 station costs n q) (n * b) (dut1_cost station costs n q) (dut1_values station) with_value alone)
        (in_slots (set_at station q))

-- over a bank
module _ (table : CostTable) (priced : IsPriced table) (rs : List Receiver) (tuned : AreTuned rs) (few : length rs ≤ MOST_RECEIVERS) (begin : ℕ)
    (window : Window) (short : window.seconds ≤ MOST_SECONDS) where
  abbrev costs : Costs
  costs = bank_costs table rs begin

  in_slot : (station : Station) (k x : ℕ) → costs station k x ≤ receiver_slot * heard_at rs station
  in_slot station k x = slot table priced station begin k x (heard_of station rs) (heard_tuned station rs tuned)

  -- of all seconds of a window
  abbrev in_window : Station → ℕ
  in_window station = 240_000_000 * heard_at rs station

  seconds_fit : (station : Station) (m : ℕ) → m ≤ window.seconds * (receiver_slot * heard_at rs station) → m ≤ in_window station
  seconds_fit station m le = omega (arith, le, mul-le-mul_right (receiver_slot * heard_at rs station) short)

  all_stations : (f : Station → ℕ) → ((s : Station) → f s ≤ in_window s) → sum_by f (stations_of window.stations) ≤ GREATEST_COST
  all_stations f le =
      omega (arith, sum_of_small f in_window le (stations_of window.stations), sum_stations in_window window.stations, all_heard rs, few)

  pub sequences_small : (q : Sequence) → sequence_cost costs window q ≤ GREATEST_COST
  sequences_small q =
      all_stations (λ s. station_cost s (costs s) window.seconds q)
      (λ s. seconds_fit s _ (in_station s (costs s) (receiver_slot * heard_at rs s) window.seconds (in_slot s) q))

  pub unions_small : (unions : Station → ℕ → ℕ) → union_cost costs window unions ≤ GREATEST_COST
  unions_small unions =
      all_stations (λ s. sum_below window.seconds (λ k. set_cost s (costs s k) (unions s k)))
      (λ s. seconds_fit s _ (in_slots s (costs s) (receiver_slot * heard_at rs s) window.seconds (in_slot s) (unions s)))

  by_span : (b : Block) (n : ℕ) (s : Span) → IsBoundBy s costs window b (Some n) → n ≤ GREATEST_COST
  by_span b n Year is = omega (arith, is.1.cost, unions_small is.1.unions)
  by_span b n Day is = omega (arith, is.1.cost, unions_small is.1.unions)
  by_span b n Hour is = omega (arith, is.1.cost, unions_small is.1.unions)
  by_span b n Minute is = omega (arith, is.1, sequences_small (first_of b))

  pub bounds_small : (b : Block) (n : ℕ) → IsBound costs window b (Some n) → n ≤ GREATEST_COST
  bounds_small b n is = by_span b n b.span is
