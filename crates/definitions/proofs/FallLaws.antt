-- By how much a bound on the cost of a second lets costs fall: where no second would cost more, by as much for each sequence.
use Rattle.std.proofs.Common.{◌≡◌, ◌≢◌, ℕ, zero, suc, ◌+◌, ◌*◌, ◌<◌, ◌≤◌, inl, inr, Bool, true, false, ◌&&◌, ◌==◌, if◌then◌else◌, List, [], ◌∷◌, length, map, filter, fold, sum_by, min, ℤ, Option, Some, None, unwrap_or, refl, ap, ◌∙◌, arith}
use Rattle.std.specs.Prelude.{option_map}
use Rattle.std.specs.List.{All, range_with_len}
use Rattle.std.proofs.Math.Nat.{mul-add, mul-le-mul_left}
use Rattle.std.proofs.lemmas.Bool.{cases_order, ne_eqb}
use Rattle.std.proofs.lemmas.List.Elements.{All-head, All-tail, All-weaker, filter_passes}
use Rattle.std.proofs.lemmas.List.Sums.{sum_by-cons}
use Rattle.signal_base.specs.declared.station.Station.{Station}
use Rattle.signal_base.specs.declared.station.Station.TheVariants.{Dcf77, Msf, Wwvb, Jjy}
use Rattle.signal_base.specs.declared.window.Window.{Window}
use Rattle.signal_base.specs.declared.tuning.CostTable.{CostTable}
use Rattle.signal_base.specs.Mask.{has_bit}
use Rattle.signal_base.specs.Number.{number_of}
use Rattle.signal_base.specs.Waveform.{symbol_count, waveform}
use Rattle.definitions.specs.declared.sequence.Sequence.{Sequence}
use Rattle.definitions.specs.codes.Vocabulary.{unscored}
use Rattle.definitions.specs.codes.Allowed.{IsSetOf, has_station, stations_of}
use Rattle.definitions.specs.heard.Logs.{Records, low_count}
use Rattle.definitions.specs.heard.Receivers.{Reception, Receiver, heard_of}
use Rattle.definitions.specs.heard.Dut1.{has_dut1, is_dut1_second, dut1_values, dut1_symbol}
use Rattle.definitions.specs.heard.Costs.{sum_below, tenth_cost, tenths_cost, least, symbols_of, counted, table_of, second_cost, slot_cost, bank_costs, set_cost, lies_in_one_day, cost_outside_dut1, dut1_cost, least_dut1_cost, station_cost, sequence_cost}
use Rattle.definitions.specs.heard.Uncapped.{uncapped, uncapped_reception, uncapped_receiver, uncapped_costs, StaysWithin, NoneIsCapped, IsScored}
use Rattle.definitions.specs.sequences.Walks.{place_at, set_at, IsWalkable}
use Rattle.definitions.specs.time.Calendar.{minute_length}
use Rattle.definitions.proofs.PlaceLaws.{within_minute}
use Rattle.definitions.proofs.SetLaws.{few, sent}
use Rattle.definitions.proofs.Dut1Laws.{dut1_bit}
use Rattle.definitions.proofs.CostLaws.{sum_below_same, set_cost_same}
use Rattle.definitions.proofs.CapLaws.{counted_lower}
use Rattle.definitions.proofs.UnionLaws.{IsUpTo, lower, has_symbol}
use Rattle.definitions.proofs.BoundLaws.{total_plus}

-- a tenth costs the same whatever a second costs at the most
tenth_same : (table : CostTable) (is_low : Bool) (o : Option ℕ) → tenth_cost (uncapped table) is_low o ≡ tenth_cost table is_low o
tenth_same table is_low None = refl
tenth_same table is_low (Some n) = refl

tenths_same : (table : CostTable) (log : Records) (m : ℕ) (wave : List Bool) → tenths_cost (uncapped table) log m wave ≡ tenths_cost table log m wave
tenths_same table log m wave = sum_below_same 10 _ _ (λ j lt. tenth_same table _ (low_count log (m + 100 * j) 100))

-- a receiver's table without its bound
table_same : (table : CostTable) (own : Option CostTable) → unwrap_or (option_map uncapped own) (uncapped table) ≡ uncapped (unwrap_or own table)
table_same table None = refl
table_same table (Some own) = refl

-- what a symbol costs a receiver by its tenths alone
abbrev tenths_of : CostTable → Reception → Station → ℕ → ℕ → ℕ
tenths_of table r station m x = tenths_cost (table_of table r.tuning) r.log m (waveform station x)

-- without a bound a second costs that, by weight
uncapped_second : (table : CostTable) (r : Reception) (station : Station) (m x : ℕ)
    → second_cost (uncapped table) (uncapped_reception r) station m x ≡ r.tuning.weight * tenths_of table r station m x
uncapped_second table r station m x =
    ap (λ (own : CostTable). r.tuning.weight * counted own.second station (λ y. tenths_cost own r.log m (waveform station y)) x) (table_same table r.tuning.table)
    ∙ ap (λ c. r.tuning.weight * c) (tenths_same (table_of table r.tuning) r.log m (waveform station x))

-- a bounded second costs no more
second_le : (table : CostTable) (r : Reception) (station : Station) (m x : ℕ)
    → second_cost table r station m x ≤ second_cost (uncapped table) (uncapped_reception r) station m x
second_le table r station m x =
    omega (
      arith,
      uncapped_second table r station m x,
      mul-le-mul_left r.tuning.weight (counted_lower (table_of table r.tuning).second station (tenths_of table r station m) x),
    )

-- those that hear a station are the same without bounds
heard_step : (r : Receiver) (rs ss : List Receiver) (b : Bool) → map (λ r. r.heard) rs ≡ map uncapped_reception (map (λ r. r.heard) ss)
    → map (λ r. r.heard) (if b then uncapped_receiver r ∷ rs else rs) ≡ map uncapped_reception (map (λ r. r.heard) (if b then r ∷ ss else ss))
heard_step r rs ss true e = ap (λ ts. uncapped_reception r.heard ∷ ts) e
heard_step r rs ss false e = e

heard_same : (station : Station) (bank : List Receiver) → heard_of station (map uncapped_receiver bank) ≡ map uncapped_reception (heard_of station bank)
heard_same station [] = refl
heard_same station (r ∷ rs) =
    let test = λ (s : Receiver). number_of s.station == number_of station in
    heard_step r (filter test (map uncapped_receiver rs)) (filter test rs) (test r) (heard_same station rs)

-- a sum over a list that was made from another
sum_mapped : {X Y : Type 0} (f : Y → ℕ) (g : X → Y) (xs : List X) → sum_by f (map g xs) ≡ sum_by (λ x. f (g x)) xs
sum_mapped f g [] = refl
sum_mapped f g (x ∷ xs) = omega (arith, sum_by-cons f (g x) (map g xs), sum_by-cons (λ x. f (g x)) x xs, sum_mapped f g xs)

-- what a slot costs without bounds is a sum over the same receivers
uncapped_slot : (table : CostTable) (bank : List Receiver) (begin : ℕ) (station : Station) (k x : ℕ) → uncapped_costs table bank begin station k x
    ≡ sum_by (λ r. second_cost (uncapped table) (uncapped_reception r) station (begin + r.tuning.delay + 1000 * k) x) (heard_of station bank)
uncapped_slot table bank begin station k x =
    ap (λ rs. slot_cost (uncapped table) rs station begin k x) (heard_same station bank)
    ∙ sum_mapped (λ (r : Reception). second_cost (uncapped table) r station (begin + r.tuning.delay + 1000 * k) x) uncapped_reception (heard_of station bank)

-- sums of terms that are no greater
terms_le : {X : Type 0} (f g : X → ℕ) → ((x : X) → f x ≤ g x) → (xs : List X) → sum_by f xs ≤ sum_by g xs
terms_le f g le [] = omega arith
terms_le f g le (x ∷ xs) = omega (arith, sum_by-cons f x xs, sum_by-cons g x xs, le x, terms_le f g le xs)

-- no symbol costs more with bounds than without
pub bounded_le : (table : CostTable) (bank : List Receiver) (begin : ℕ) (station : Station) (k x : ℕ)
    → bank_costs table bank begin station k x ≤ uncapped_costs table bank begin station k x
bounded_le table bank begin station k x =
    omega (
      arith,
      uncapped_slot table bank begin station k x,
      terms_le _ _ (λ (r : Reception). second_le table r station (begin + r.tuning.delay + 1000 * k) x) (heard_of station bank),
    )

-- the least of some costs is at most each of them
fold_le : (cs : List ℕ) (m : ℕ) → fold min m cs ≤ m
fold_le [] m = omega arith
fold_le (c ∷ cs) m = omega (arith, fold_le cs (min m c))

fold_le_each : (costs : ℕ → ℕ) (n a m x : ℕ) → a ≤ x → x < a + n → fold min m (map costs (range_with_len a n)) ≤ costs x
fold_le_each costs zero a m x from to = absurd (omega arith)
fold_le_each costs (suc n) a m x from to = elim (cases_order x a) [
  | inl same ↦ omega (arith, ap costs same, fold_le (map costs (range_with_len (a + 1) n)) (min m (costs a)))
  | inr apart ↦ fold_le_each costs n (a + 1) (min m (costs a)) x
      (elim apart [ inl less ↦ absurd (omega (arith, less, from)) | inr more ↦ omega (arith, more) ]) (omega (arith, to))
]

least_le : (costs : ℕ → ℕ) (n x : ℕ) → x < n → unwrap_or (least (map costs (range_with_len 0 n))) 0 ≤ costs x
least_le costs zero x lt = absurd (omega arith)
least_le costs (suc n) zero lt = fold_le (map costs (range_with_len 1 n)) (costs 0)
least_le costs (suc n) (suc x) lt = fold_le_each costs n 1 (costs 0) (suc x) (omega arith) (omega arith)

-- what the cheapest symbol costs, which a bounded second leaves out
abbrev cheapest : Option ℕ → Station → (ℕ → ℕ) → ℕ
cheapest None station costs = 0
cheapest (Some most) station costs = unwrap_or (least (map (λ y. min most (costs y)) (symbols_of station))) 0

-- a symbol that costs no more than the bound falls by that
counted_falls : (second : Option ℕ) (station : Station) (costs : ℕ → ℕ) (x : ℕ) → x < symbol_count station → ((most : ℕ) → second ≡ Some most → costs x ≤ most)
    → costs x ≡ counted second station costs x + cheapest second station costs
counted_falls None station costs x lt within = omega arith
counted_falls (Some most) station costs x lt within =
    omega (arith, within most refl, least_le (λ y. min most (costs y)) (symbol_count station) x lt)

-- by how much a receiver's second falls, and a slot
abbrev second_fall : CostTable → Reception → Station → ℕ → ℕ
second_fall table r station m = r.tuning.weight * cheapest (table_of table r.tuning).second station (tenths_of table r station m)

abbrev slot_fall : CostTable → List Reception → Station → ℕ → ℕ → ℕ
slot_fall table receptions station begin k = sum_by (λ r. second_fall table r station (begin + r.tuning.delay + 1000 * k)) receptions

second_falls : (table : CostTable) (r : Reception) (station : Station) (begin n k x : ℕ) → StaysWithin table station begin n r → k < n → x < symbol_count station
    → second_cost (uncapped table) (uncapped_reception r) station (begin + r.tuning.delay + 1000 * k) x
    ≡ second_cost table r station (begin + r.tuning.delay + 1000 * k) x + second_fall table r station (begin + r.tuning.delay + 1000 * k)
second_falls table r station begin n k x within lt is =
    let m = begin + r.tuning.delay + 1000 * k in
    let second = (table_of table r.tuning).second in
    let costs = tenths_of table r station m in
    uncapped_second table r station m x
    ∙ ap (λ c. r.tuning.weight * c) (counted_falls second station costs x is (λ most e. within most e k x lt is))
    ∙ mul-add r.tuning.weight (counted second station costs x) (cheapest second station costs)

-- a sum of sums
terms_plus : {X : Type 0} (f g h : X → ℕ) (xs : List X) → All (λ x. f x ≡ g x + h x) xs → sum_by f xs ≡ sum_by g xs + sum_by h xs
terms_plus f g h [] each = refl
terms_plus f g h (x ∷ xs) each =
    omega (
      arith,
      sum_by-cons f x xs,
      sum_by-cons g x xs,
      sum_by-cons h x xs,
      All-head (λ x. f x ≡ g x + h x) x xs each,
      terms_plus f g h xs (All-tail (λ x. f x ≡ g x + h x) x xs each),
    )

-- every symbol of a station falls by as much in a slot
slot_falls : (table : CostTable) (bank : List Receiver) (begin n : ℕ) (station : Station) (k x : ℕ) → All (StaysWithin table station begin n) (heard_of station bank)
    → k < n → x < symbol_count station
    → uncapped_costs table bank begin station k x ≡ bank_costs table bank begin station k x + slot_fall table (heard_of station bank) station begin k
slot_falls table bank begin n station k x within lt is =
    uncapped_slot table bank begin station k x
    ∙ terms_plus (λ r. second_cost (uncapped table) (uncapped_reception r) station (begin + r.tuning.delay + 1000 * k) x)
    (λ r. second_cost table r station (begin + r.tuning.delay + 1000 * k) x)
    (λ r. second_fall table r station (begin + r.tuning.delay + 1000 * k)) (heard_of station bank)
    (All-weaker (StaysWithin table station begin n) _ (λ r stays. second_falls table r station begin n k x stays lt is) (heard_of station bank) within)

-- the least of costs that are all more by as much
min_more : (m n more : ℕ) → min (m + more) (n + more) ≡ min m n + more
min_more m n more = omega arith

fold_falls : {X : Type 0} (f g : X → ℕ) (fall : ℕ) → ((x : X) → f x ≡ g x + fall) → (xs : List X) (m n : ℕ) → m ≡ n + fall
    → fold min m (map f xs) ≡ fold min n (map g xs) + fall
fold_falls f g fall each [] m n e = e
fold_falls f g fall each (x ∷ xs) m n e =
    fold_falls f g fall each xs (min m (f x)) (min n (g x)) (rw (e, each x) (min_more n (g x) fall))

least_falls : {X : Type 0} (f g : X → ℕ) (fall : ℕ) → ((x : X) → f x ≡ g x + fall) → (xs : List X) → 0 < length xs
    → unwrap_or (least (map f xs)) 0 ≡ unwrap_or (least (map g xs)) 0 + fall
least_falls f g fall each [] some = absurd (omega arith)
least_falls f g fall each (x ∷ xs) some = fold_falls f g fall each xs (f x) (g x) (each x)

some_of : (costs : ℕ → ℕ) (xs : List ℕ) (c : ℕ) → IsUpTo c (least (map costs xs)) → 0 < length xs
some_of costs [] c never = absurd never
some_of costs (x ∷ xs) c is = omega arith

-- a set of a scored second falls by what its symbols do
set_falls : (station : Station) (f g : ℕ → ℕ) (fall set : ℕ) → ((x : ℕ) → x < symbol_count station → f x ≡ g x + fall) → IsSetOf station set → set ≢ unscored
    → set_cost station f set ≡ set_cost station g set + fall
set_falls station f g fall set each is scored =
    let has = has_symbol station set is scored in
    let chosen = filter (has_bit set) (symbols_of station) in
    let some = some_of g chosen (g has.0) (lower g set (symbol_count station) has.0 has.1 has.2) in
    let fell : unwrap_or (least (map (λ x. g x + fall) chosen)) 0 ≡ unwrap_or (least (map g chosen)) 0 + fall = least_falls (λ x. g x + fall) g fall (λ x. refl) chosen some in
    set_cost_same station f (λ x. g x + fall) set each
    ∙ rw (ne_eqb set unscored scored) fell

-- a station that tells DUT1 has values of it
some_values : (station : Station) → has_dut1 station ≡ true → 0 < length (dut1_values station)
some_values Dcf77 has = absurd cc
some_values Msf has = omega arith
some_values Wwvb has = omega arith
some_values Jjy has = absurd cc

module _ (station : Station) (plain bounded : ℕ → ℕ → ℕ) (fall : ℕ → ℕ) (n : ℕ)
    (falls : (k x : ℕ) → k < n → x < symbol_count station → plain k x ≡ bounded k x + fall k)
    (q : Sequence) (second : q.second < minute_length q.announced q.first)
    (scored : (k : ℕ) → k < n → set_at station q k ≢ unscored) where
  abbrev tells : ℕ → Bool
  tells k = is_dut1_second station (place_at q k).1

  -- by how much the seconds that tell DUT1 fall, and the others
  abbrev told_fall : ℕ → ℕ
  told_fall k = if tells k then fall k else 0

  abbrev other_fall : ℕ → ℕ
  other_fall k = if tells k then 0 else fall k

  part_fell : (b : Bool) (c d e : ℕ) → c ≡ d + e → (if b then c else 0) ≡ (if b then d else 0) + (if b then e else 0)
  part_fell true c d e eq = eq
  part_fell false c d e eq = refl

  other_fell : (b : Bool) (c d e : ℕ) → c ≡ d + e → (if b then 0 else c) ≡ (if b then 0 else d) + (if b then 0 else e)
  other_fell true c d e eq = refl
  other_fell false c d e eq = eq

  both_parts : (b : Bool) (c : ℕ) → c ≡ (if b then 0 else c) + (if b then c else 0)
  both_parts true c = omega arith
  both_parts false c = omega arith

  slot_fell : (k : ℕ) → k < n → set_cost station (plain k) (set_at station q k) ≡ set_cost station (bounded k) (set_at station q k) + fall k
  slot_fell k lt =
      set_falls station (plain k) (bounded k) (fall k) (set_at station q k) (λ x is. falls k x lt is)
      (sent station q.announced (place_at q k).0 (place_at q k).1 (within_minute q second k)) (scored k lt)

  slots_fell : sum_below n (λ k. set_cost station (plain k) (set_at station q k)) ≡ sum_below n (λ k. set_cost station (bounded k) (set_at station q k)) + sum_below n fall
  slots_fell =
      sum_below_same n _ (λ k. set_cost station (bounded k) (set_at station q k) + fall k) slot_fell ∙ total_plus n _ fall

  outside_fell : cost_outside_dut1 station plain n q ≡ cost_outside_dut1 station bounded n q + sum_below n other_fall
  outside_fell =
      sum_below_same n _ (λ k. (if tells k then 0 else set_cost station (bounded k) (set_at station q k)) + other_fall k)
      (λ k lt. other_fell (tells k) _ _ _ (slot_fell k lt))
      ∙ total_plus n _ other_fall

  told_fell : (d : ℤ) → dut1_cost station plain n q d ≡ dut1_cost station bounded n q d + sum_below n told_fall
  told_fell d =
      sum_below_same n _ (λ k. (if tells k then bounded k (dut1_symbol station d (place_at q k).1) else 0) + told_fall k)
      (λ k lt. part_fell (tells k) _ _ _ (falls k _ lt (few station _ (dut1_bit station d (place_at q k).1))))
      ∙ total_plus n _ told_fall

  parts_fall : sum_below n fall ≡ sum_below n other_fall + sum_below n told_fall
  parts_fall = sum_below_same n fall _ (λ k lt. both_parts (tells k) (fall k)) ∙ total_plus n other_fall told_fall

  -- a sequence falls at a station by what its slots do
  station_falls : station_cost station plain n q ≡ station_cost station bounded n q + sum_below n fall
  station_falls = by_station (has_dut1 station) refl (lies_in_one_day n q)
    where
      by_station : (has : Bool) → has_dut1 station ≡ has → (one : Bool)
          → (if has && one then cost_outside_dut1 station plain n q + least_dut1_cost station plain n q else sum_below n (λ k. set_cost station (plain k) (set_at station q k)))
          ≡ (if has && one then cost_outside_dut1 station bounded n q + least_dut1_cost station bounded n q else sum_below n (λ k. set_cost station (bounded k) (set_at station q k)))
          + sum_below n fall
      by_station false e one = slots_fell
      by_station true e false = slots_fell
      by_station true e true =
          omega (
            arith,
            outside_fell,
            parts_fall,
            least_falls (dut1_cost station plain n q) (dut1_cost station bounded n q) (sum_below n told_fall) told_fell (dut1_values station) (some_values station e),
          )

module _ (table : CostTable) (bank : List Receiver) (begin : ℕ) (window : Window) (within : NoneIsCapped table bank begin window) where
  -- by how much every sequence falls whose slots are all scored
  abbrev window_fall : ℕ
  window_fall = sum_by (λ station. sum_below window.seconds (slot_fall table (heard_of station bank) station begin)) (stations_of window.stations)

  sequence_falls : (q : Sequence) → IsWalkable window q → IsScored window q
      → sequence_cost (uncapped_costs table bank begin) window q ≡ sequence_cost (bank_costs table bank begin) window q + window_fall
  sequence_falls q walkable scored =
      terms_plus _ _ _ (stations_of window.stations)
      (All-weaker (λ station. has_station window.stations station ≡ true) _
      (λ station is.
      station_falls station (uncapped_costs table bank begin station) (bank_costs table bank begin station) (slot_fall table (heard_of station bank) station begin) window.seconds
      (λ k x lt small. slot_falls table bank begin window.seconds station k x (within station is) lt small) q walkable.second
      (λ k lt. scored station k is lt))
      (stations_of window.stations) (filter_passes (has_station window.stations) (Dcf77 ∷ Msf ∷ Wwvb ∷ Jjy ∷ [])))

  -- so two of them differ by as much with bounds as without
  pub difference_same : (q r : Sequence) → IsWalkable window q → IsWalkable window r → IsScored window q → IsScored window r
      → sequence_cost (bank_costs table bank begin) window q + sequence_cost (uncapped_costs table bank begin) window r
      ≡ sequence_cost (bank_costs table bank begin) window r + sequence_cost (uncapped_costs table bank begin) window q
  difference_same q r walkable also scored too = omega (arith, sequence_falls q walkable scored, sequence_falls r also too)
