-- Costs that agree on a window cost its sequences alike, and tell the same of DUT1.
use Rattle.std.proofs.Common.{◌≡◌, ℕ, ◌+◌, ◌<◌, ◌==◌, Bool, true, false, ◌&&◌, not, if◌then◌else◌, List, [], ◌∷◌, map, filter, fold, unwrap_or, ℤ, refl, ap, ◌∙◌}
use Rattle.std.proofs.lemmas.List.Elements.{filter_agree}
use Rattle.signal_base.specs.declared.dut.Dut.TheVariants.{Absent, Free}
use Rattle.signal_base.specs.declared.station.Station.{Station}
use Rattle.signal_base.specs.declared.station.Station.TheVariants.{Dcf77, Msf, Wwvb, Jjy}
use Rattle.signal_base.specs.declared.window.Window.{Window}
use Rattle.definitions.specs.declared.sequence.Sequence.{Sequence}
use Rattle.definitions.specs.codes.Allowed.{has_station}
use Rattle.definitions.specs.sequences.Walks.{place_at, set_at}
use Rattle.definitions.specs.heard.Costs.{Costs, cost_outside_dut1, dut1_cost, dut_among, dut_of, least, least_dut1_cost, lies_in_one_day, sequence_cost, set_cost, station_cost, sum_below}
use Rattle.definitions.specs.answers.Blocks.{union_cost}
use Rattle.definitions.specs.heard.Dut1.{dut1_symbol, dut1_values, has_dut1, is_dut1_second}
use Rattle.definitions.proofs.CostLaws.{set_cost_same, sum_below_same}
use Rattle.definitions.proofs.Dut1Laws.{dut1_bit}
use Rattle.definitions.proofs.SetLaws.{few}
use Rattle.plain_costs.specs.Agreement.{AgreeOn}

pub map_agree : {X Y : Type 0} (f g : X → Y) → ((x : X) → f x ≡ g x) → (xs : List X) → map f xs ≡ map g xs
map_agree f g same [] = refl
map_agree f g same (x ∷ xs) = let head = same x in let tail = map_agree f g same xs in cc

-- sums over the elements that pass a test
sum_agree : {X : Type 0} (p : X → Bool) (f g : X → ℕ) → ((x : X) → p x ≡ true → f x ≡ g x) → (xs : List X) (a : ℕ)
    → fold (λ c x. c + f x) a (filter p xs) ≡ fold (λ c x. c + g x) a (filter p xs)
sum_agree p f g same [] a = refl
sum_agree p f g same (x ∷ xs) a = by_test (p x) refl (sum_agree p f g same xs)
  where
    by_test : (t : Bool) → p x ≡ t → ((b : ℕ) → fold (λ c x. c + f x) b (filter p xs) ≡ fold (λ c x. c + g x) b (filter p xs))
        → fold (λ c x. c + f x) a (if t then x ∷ filter p xs else filter p xs) ≡ fold (λ c x. c + g x) a (if t then x ∷ filter p xs else filter p xs)
    by_test true e rest = ap (λ n. fold (λ c x. c + f x) (a + n) (filter p xs)) (same x e) ∙ rest (a + g x)
    by_test false e rest = rest a

module _ (window : Window) (costs others : Costs) (agree : AgreeOn window costs others) (station : Station) (heard : has_station window.stations station ≡ true) (q : Sequence) where
  -- a set costs the same in a slot, and so does a symbol that tells DUT1
  set : (k : ℕ) → k < window.seconds → set_cost station (costs station k) (set_at station q k) ≡ set_cost station (others station k) (set_at station q k)
  set k lt = set_cost_same station (costs station k) (others station k) (set_at station q k) (λ x few. agree station k x heard lt few)

  value : (d : ℤ) → dut1_cost station (costs station) window.seconds q d ≡ dut1_cost station (others station) window.seconds q d
  value d = sum_below_same window.seconds _ _ (λ k lt.
      let s = (place_at q k).1 in
      ap (λ (c : ℕ). if is_dut1_second station s then c else 0) (agree station k (dut1_symbol station d s) heard lt (few station _ (dut1_bit station d s))))

  least_same : least_dut1_cost station (costs station) window.seconds q ≡ least_dut1_cost station (others station) window.seconds q
  least_same = ap (λ (cs : List ℕ). unwrap_or (least cs) 0) (map_agree (dut1_cost station (costs station) window.seconds q) (dut1_cost station (others station) window.seconds q) value (dut1_values station))

  outside_same : cost_outside_dut1 station (costs station) window.seconds q ≡ cost_outside_dut1 station (others station) window.seconds q
  outside_same = sum_below_same window.seconds _ _ (λ k lt.
      ap (λ (c : ℕ). if is_dut1_second station (place_at q k).1 then 0 else c) (set k lt))

  sets_same : sum_below window.seconds (λ k. set_cost station (costs station k) (set_at station q k)) ≡ sum_below window.seconds (λ k. set_cost station (others station k) (set_at station q k))
  sets_same = sum_below_same window.seconds _ _ set

  pub station_same : station_cost station (costs station) window.seconds q ≡ station_cost station (others station) window.seconds q
  station_same =
      by_day (has_dut1 station && lies_in_one_day window.seconds q)
    where
      by_day : (b : Bool)
          → (if b then cost_outside_dut1 station (costs station) window.seconds q + least_dut1_cost station (costs station) window.seconds q
          else sum_below window.seconds (λ k. set_cost station (costs station k) (set_at station q k)))
          ≡ (if b then cost_outside_dut1 station (others station) window.seconds q + least_dut1_cost station (others station) window.seconds q
          else sum_below window.seconds (λ k. set_cost station (others station k) (set_at station q k)))
      by_day true = ap (λ c. c + least_dut1_cost station (costs station) window.seconds q) outside_same ∙ ap (λ c. cost_outside_dut1 station (others station) window.seconds q + c) least_same
      by_day false = sets_same

  pub dut_same : dut_of station (costs station) window.seconds q ≡ dut_of station (others station) window.seconds q
  dut_same =
      ap (λ (ds : List ℤ). if not (has_dut1 station) then Absent else if not (lies_in_one_day window.seconds q) then Free else dut_among ds)
      (filter_agree _ _ (λ d. ap (λ c. c == least_dut1_cost station (costs station) window.seconds q) (value d) ∙ ap (λ c. dut1_cost station (others station) window.seconds q d == c) least_same) (dut1_values station))

pub sequence_same : (window : Window) (costs others : Costs) (q : Sequence) → AgreeOn window costs others → sequence_cost costs window q ≡ sequence_cost others window q
sequence_same window costs others q agree =
    sum_agree (has_station window.stations)
    (λ station. station_cost station (costs station) window.seconds q)
    (λ station. station_cost station (others station) window.seconds q)
    (λ station heard. station_same window costs others agree station heard q)
    (Dcf77 ∷ Msf ∷ Wwvb ∷ Jjy ∷ []) 0

-- so do unions of sets
pub unions_same : (window : Window) (costs others : Costs) (unions : Station → ℕ → ℕ) → AgreeOn window costs others
    → union_cost costs window unions ≡ union_cost others window unions
unions_same window costs others unions agree =
    sum_agree (has_station window.stations)
    (λ station. sum_below window.seconds (λ k. set_cost station (costs station k) (unions station k)))
    (λ station. sum_below window.seconds (λ k. set_cost station (others station k) (unions station k)))
    (λ station heard. sum_below_same window.seconds _ _ (λ k lt.
    set_cost_same station (costs station k) (others station k) (unions station k) (λ x few. agree station k x heard lt few)))
    (Dcf77 ∷ Msf ∷ Wwvb ∷ Jjy ∷ []) 0
