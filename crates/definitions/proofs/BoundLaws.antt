-- A bound is one, and no legal sequence of its block costs less.
use Rattle.std.proofs.Common.{◌≡◌, ℕ, zero, suc, ◌+◌, ◌<◌, ◌≤◌, Bool, true, false, ◌&&◌, if◌then◌else◌, List, [], ◌∷◌, length, map, filter, fold, sum_by, min, ℤ, Option, Some, None, unwrap_or, refl, sym, ap, ◌∙◌, subst, arith}
use Rattle.signal_base.specs.declared.station.Station.{Station}
use Rattle.signal_base.specs.declared.station.Station.TheVariants.{Dcf77, Msf, Wwvb, Jjy}
use Rattle.signal_base.specs.declared.window.Window.{Window}
use Rattle.definitions.specs.declared.sequence.Sequence.{Sequence}
use Rattle.definitions.specs.declared.block.Block.{Block}
use Rattle.definitions.specs.declared.block.Span.{Span}
use Rattle.definitions.specs.declared.block.Span.TheVariants.{Year, Day, Hour, Minute}
use Rattle.definitions.specs.codes.Allowed.{has_station, stations_of}
use Rattle.definitions.specs.sequences.Keys.{index_of, key_of}
use Rattle.definitions.specs.sequences.Walks.{place_at, set_at, IsLegal, IsWalkable}
use Rattle.definitions.specs.heard.Dut1.{has_dut1, is_dut1_second, dut1_values, dut1_symbol}
use Rattle.definitions.specs.heard.Costs.{Costs, sum_below, least, set_cost, lies_in_one_day, cost_outside_dut1, dut1_cost, least_dut1_cost, station_cost, sequence_cost}
use Rattle.definitions.specs.answers.Blocks.{IsBlock, IsIn, IsUnion, first_of, union_cost, IsCostOfUnions, IsUnionBound, IsMinuteBound, IsBound, IsBoundBy, block_key, span_end}
use Rattle.definitions.proofs.KeyLaws.{same_sequence}
use Rattle.definitions.proofs.PlaceLaws.{within_minute}
use Rattle.definitions.proofs.SetLaws.{sent}
use Rattle.definitions.proofs.Dut1Laws.{dut1_sets, dut1_bit}
use Rattle.definitions.proofs.UnionLaws.{within_le, wider_costs_no_more, free_costs_no_more}

-- sums of terms that are no greater
total_le : (n : ℕ) (f g : ℕ → ℕ) → ((k : ℕ) → k < n → f k ≤ g k) → sum_below n f ≤ sum_below n g
unfolding sum_below
total_le zero f g le = omega arith
total_le (suc n) f g le = omega (arith, total_le n f g (λ k lt. le k (omega arith)), le n (omega arith))

-- a sum of sums
pub total_plus : (n : ℕ) (f g : ℕ → ℕ) → sum_below n (λ k. f k + g k) ≡ sum_below n f + sum_below n g
unfolding sum_below
total_plus zero f g = refl
total_plus (suc n) f g = omega (arith, total_plus n f g)

sum_step : {X : Type 0} (p : X → Bool) (f g : X → ℕ) → ((x : X) → p x ≡ true → f x ≤ g x) → (x : X) (xs : List X)
    → ((a b : ℕ) → a ≤ b → fold (λ c x. c + f x) a (filter p xs) ≤ fold (λ c x. c + g x) b (filter p xs)) → (t : Bool) → p x ≡ t
    → (a b : ℕ) → a ≤ b → fold (λ c x. c + f x) a (if t then x ∷ filter p xs else filter p xs) ≤ fold (λ c x. c + g x) b (if t then x ∷ filter p xs else filter p xs)
sum_step p f g le x xs rest true e a b ab = rest (a + f x) (b + g x) (omega (arith, ab, le x e))
sum_step p f g le x xs rest false e a b ab = rest a b ab

sum_from_le : {X : Type 0} (p : X → Bool) (f g : X → ℕ) → ((x : X) → p x ≡ true → f x ≤ g x) → (xs : List X) (a b : ℕ) → a ≤ b
    → fold (λ c x. c + f x) a (filter p xs) ≤ fold (λ c x. c + g x) b (filter p xs)
sum_from_le p f g le [] a b ab = ab
sum_from_le p f g le (x ∷ xs) a b ab = sum_step p f g le x xs (sum_from_le p f g le xs) (p x) refl a b ab

-- sums over the stations of a window
sum_le : (window : Window) (f g : Station → ℕ) → ((station : Station) → has_station window.stations station ≡ true → f station ≤ g station)
    → sum_by f (stations_of window.stations) ≤ sum_by g (stations_of window.stations)
sum_le window f g le = sum_from_le (has_station window.stations) f g le (Dcf77 ∷ Msf ∷ Wwvb ∷ Jjy ∷ []) 0 0 (omega arith)

fold_ge : (c m : ℕ) (g : ℤ → ℕ) → ((d : ℤ) → c ≤ g d) → c ≤ m → (ds : List ℤ) → c ≤ fold min m (map g ds)
fold_ge c m g le first [] = first
fold_ge c m g le first (d ∷ ds) = fold_ge c (min m (g d)) g le (least_of m (g d) first (le d)) ds
  where
    least_of : (m n : ℕ) → c ≤ m → c ≤ n → c ≤ min m n
    least_of m n a b = omega arith

least_ge : (c : ℕ) (g : ℤ → ℕ) → ((d : ℤ) → c ≤ g d) → (ds : List ℤ) → 0 < length ds → c ≤ unwrap_or (least (map g ds)) 0
least_ge c g le [] some = absurd (omega arith)
least_ge c g le (d ∷ ds) some = fold_ge c (g d) g le (le d) ds

-- the least over the values of DUT1 is not below what is below each
least_values : (station : Station) (c : ℕ) (g : ℤ → ℕ) → has_dut1 station ≡ true → ((d : ℤ) → c ≤ g d) → c ≤ unwrap_or (least (map g (dut1_values station))) 0
least_values Dcf77 c g has le = absurd cc
least_values Msf c g has le = least_ge c g le (dut1_values Msf) (omega arith)
least_values Wwvb c g has le = least_ge c g le (dut1_values Wwvb) (omega arith)
least_values Jjy c g has le = absurd cc

module _ (station : Station) (costs : ℕ → ℕ → ℕ) (n : ℕ) (q : Sequence) where
  -- what a slot's set costs, the part of DUT1's seconds, and the rest
  abbrev in_slot : ℕ → ℕ
  in_slot k = set_cost station (costs k) (set_at station q k)

  abbrev tells : ℕ → Bool
  tells k = is_dut1_second station (place_at q k).1

  abbrev told : ℕ → ℕ
  told k = if tells k then in_slot k else 0

  abbrev untold : ℕ → ℕ
  untold k = if tells k then 0 else in_slot k

  parted : (b : Bool) (c : ℕ) → c ≤ (if b then 0 else c) + (if b then c else 0)
  parted true c = omega arith
  parted false c = omega arith

  told_le : (d : ℤ) (k : ℕ) → told k ≤ (if tells k then costs k (dut1_symbol station d (place_at q k).1) else 0)
  told_le d k = by_second (tells k) refl
    where
      by_second : (b : Bool) → tells k ≡ b → (if b then in_slot k else 0) ≤ (if b then costs k (dut1_symbol station d (place_at q k).1) else 0)
      by_second true e =
          subst (λ set. set_cost station (costs k) set ≤ costs k (dut1_symbol station d (place_at q k).1))
          (sym (dut1_sets station q.announced (place_at q k).0 (place_at q k).1 e))
          (free_costs_no_more station (costs k) (dut1_symbol station d (place_at q k).1) (dut1_bit station d (place_at q k).1))
      by_second false e = omega arith

  -- a sequence costs a station no less than its sets do
  pub sets_cost_no_more : sum_below n in_slot ≤ station_cost station costs n q
  sets_cost_no_more = by_station (has_dut1 station) refl (lies_in_one_day n q)
    where
      by_station : (has : Bool) → has_dut1 station ≡ has → (one : Bool)
          → sum_below n in_slot ≤ (if has && one then cost_outside_dut1 station costs n q + least_dut1_cost station costs n q else sum_below n in_slot)
      by_station false e one = omega arith
      by_station true e false = omega arith
      by_station true e true =
          omega (
            arith,
            total_le n in_slot (λ k. untold k + told k) (λ k lt. parted (tells k) (in_slot k)),
            total_plus n untold told,
            least_values station (sum_below n told) (dut1_cost station costs n q) e
                (λ d. total_le n told (λ k. if tells k then costs k (dut1_symbol station d (place_at q k).1) else 0) (λ k lt. told_le d k)),
          )

-- a union is one
pub unions_one : (window : Window) (b : Block) (station : Station) (k m n : ℕ) → IsUnion window b station k m → IsUnion window b station k n → m ≡ n
unions_one window b station k m n one other =
    let le = within_le m n one.byte other.byte (λ x is. other.each x (one.only x is)) in
    let ge = within_le n m other.byte one.byte (λ x is. one.each x (other.only x is)) in
    omega (arith, le, ge)

module _ (costs : Costs) (window : Window) (b : Block) where
  -- a union costs no more than the set of a sequence of the block
  union_le : (q : Sequence) → IsIn b q → IsWalkable window q → (station : Station) (k u : ℕ) → IsUnion window b station k u
      → set_cost station (costs station k) u ≤ set_cost station (costs station k) (set_at station q k)
  union_le q is walkable station k u union =
      wider_costs_no_more station (costs station k) (set_at station q k) u
      (sent station q.announced (place_at q k).0 (place_at q k).1 (within_minute q walkable.second k)) union.byte
      (λ x bit. union.each x (q, is, walkable, bit))

  union_bound_le : (n : ℕ) (q : Sequence) → IsCostOfUnions costs window b n → IsIn b q → IsWalkable window q → n ≤ sequence_cost costs window q
  union_bound_le n q bound is walkable =
      let unions = bound.unions in
      let le = sum_le window
      (λ station. sum_below window.seconds (λ k. set_cost station (costs station k) (unions station k)))
      (λ station. station_cost station (costs station) window.seconds q)
      (λ station heard.
      let one = total_le window.seconds (λ k. set_cost station (costs station k) (unions station k)) (λ k. set_cost station (costs station k) (set_at station q k))
      (λ k lt. union_le q is walkable station k (unions station k) (bound.each station k heard lt)) in
      omega (arith, one, sets_cost_no_more station (costs station) window.seconds q)) in
      omega (arith, le, bound.cost)

  -- a minute has one sequence
  of_minute : (q : Sequence) → IsBlock window b → b.span ≡ Minute → IsIn b q → q ≡ first_of b
  of_minute q block minute is =
      let end = ap (λ s. span_end s b.lo) minute in
      same_sequence q (first_of b) (omega (arith, end, block.ends, is.not_before, is.before_end)) is.second is.announced

  bound_le : (n : ℕ) (q : Sequence) → IsBlock window b → IsIn b q → IsLegal window q → (s : Span) → b.span ≡ s → IsBoundBy s costs window b (Some n) → n ≤ sequence_cost costs window q
  bound_le n q block is legal Year e bound = union_bound_le n q bound.1 is legal.0
  bound_le n q block is legal Day e bound = union_bound_le n q bound.1 is legal.0
  bound_le n q block is legal Hour e bound = union_bound_le n q bound.1 is legal.0
  bound_le n q block is legal Minute e bound = omega (arith, bound.1, ap (sequence_cost costs window) (of_minute q block e is))

  none_legal : (q : Sequence) → IsBlock window b → IsIn b q → IsLegal window q → (s : Span) → b.span ≡ s → IsBoundBy s costs window b None → ⊥
  none_legal q block is legal Year e bound = bound (q, is, legal.0)
  none_legal q block is legal Day e bound = bound (q, is, legal.0)
  none_legal q block is legal Hour e bound = bound (q, is, legal.0)
  none_legal q block is legal Minute e bound = bound (subst (IsLegal window) (of_minute q block e is) legal)

  first_index : (q : Sequence) → IsIn b q → index_of (first_of b) ≤ index_of q
  first_index q is = by_fields q.announced is.announced q.second is.second q.first is.not_before
    where
      by_fields : (a : Bool) → a ≡ b.announced → (s : ℕ) → s ≡ b.second → (f : ℕ) → b.lo ≤ f
          → index_of (first_of b) ≤ index_of (record { first = f; second = s; announced = a })
      by_fields a e s g f le = rw (e, g) (omega (arith, le))

  -- no legal sequence of the block has a lesser key
  pub key_le : (n : ℕ) (q : Sequence) → IsBlock window b → IsBound costs window b (Some n) → IsIn b q → IsLegal window q
      → block_key n b ≤ key_of (sequence_cost costs window q) q
  key_le n q block bound is legal = omega (arith, bound_le n q block is legal b.span refl bound, first_index q is)

  -- a block without a bound has no legal sequence
  pub no_bound : (q : Sequence) → IsBlock window b → IsBound costs window b None → IsIn b q → IsLegal window q → ⊥
  no_bound q block bound is legal = none_legal q block is legal b.span refl bound

  -- unions of one kind cost the same
  unions_le : (unions others : Station → ℕ → ℕ)
      → ((station : Station) (k : ℕ) → has_station window.stations station ≡ true → k < window.seconds → IsUnion window b station k (unions station k))
      → ((station : Station) (k : ℕ) → has_station window.stations station ≡ true → k < window.seconds → IsUnion window b station k (others station k))
      → union_cost costs window unions ≤ union_cost costs window others
  unions_le unions others are also = sum_le window
      (λ station. sum_below window.seconds (λ k. set_cost station (costs station k) (unions station k)))
      (λ station. sum_below window.seconds (λ k. set_cost station (costs station k) (others station k)))
      (λ station heard. total_le window.seconds _ _ (λ k lt.
      let one = are station k heard lt in
      let other = also station k heard lt in
      omega (arith, ap (set_cost station (costs station k)) (unions_one window b station k (unions station k) (others station k) one other))))

  union_bounds_one : (m n : Option ℕ) → IsUnionBound costs window b m → IsUnionBound costs window b n → m ≡ n
  union_bounds_one None None x y = refl
  union_bounds_one None (Some n) x y = absurd (x y.0)
  union_bounds_one (Some m) None x y = absurd (y x.0)
  union_bounds_one (Some m) (Some n) x y =
      let le = unions_le x.1.unions y.1.unions x.1.each y.1.each in
      let ge = unions_le y.1.unions x.1.unions y.1.each x.1.each in
      let same : m ≡ n = omega (arith, x.1.cost, y.1.cost, le, ge) in
      ap Some same

  minute_bounds_one : (m n : Option ℕ) → IsMinuteBound costs window b m → IsMinuteBound costs window b n → m ≡ n
  minute_bounds_one None None x y = refl
  minute_bounds_one None (Some n) x y = absurd (x y.0)
  minute_bounds_one (Some m) None x y = absurd (y x.0)
  minute_bounds_one (Some m) (Some n) x y = ap Some (x.1 ∙ sym y.1)

  bounds_by_span : (m n : Option ℕ) (s : Span) → IsBoundBy s costs window b m → IsBoundBy s costs window b n → m ≡ n
  bounds_by_span m n Year x y = union_bounds_one m n x y
  bounds_by_span m n Day x y = union_bounds_one m n x y
  bounds_by_span m n Hour x y = union_bounds_one m n x y
  bounds_by_span m n Minute x y = minute_bounds_one m n x y

  -- a bound is one
  pub bounds_one : (m n : Option ℕ) → IsBound costs window b m → IsBound costs window b n → m ≡ n
  bounds_one m n x y = bounds_by_span m n b.span x y
