-- The least cost of a value of DUT1, and which values have it.
use Rattle.std.proofs.Common.{◌≡◌, ◌==◌, ◌+◌, ◌<◌, ◌++◌, ℕ, true, false, List, [], ◌∷◌, map, filter, min, Option, Some, ℤ, refl, sym, ap, ◌∙◌, arith, append-nil}
use Rattle.std.specs.List.{range_with_len}
use Rattle.std.proofs.lemmas.List.FromFn.{filter_of_map_range_with_len_more, map-range_with_len_more}
use Rattle.signal_base.specs.declared.dut.Dut.{Dut}
use Rattle.signal_base.specs.declared.station.Station.{Station}
use Rattle.signal_base.specs.declared.station.Station.TheVariants.{Dcf77, Msf, Wwvb, Jjy}
use Rattle.definitions.specs.declared.sequence.Sequence.{Sequence}
use Rattle.definitions.specs.heard.Costs.{dut1_cost, dut_among, dut_of, least, least_dut1_cost, lies_in_one_day}
use Rattle.definitions.specs.heard.Dut1.{dut1_values, has_dut1}
use Rattle.definitions.proofs.CostLaws.{lesser_with, least_more}
use Rattle.plain_costs.specs.Tenths.{tenths_at, value_count, with_value}

-- the first n values
abbrev pub values_below : Station → ℕ → List ℤ
values_below station n = map (tenths_at station) (range_with_len 0 n)

pub all_values : (station : Station) → values_below station (value_count station) ≡ dut1_values station
all_values Dcf77 = refl
all_values Msf = refl
all_values Wwvb = refl
all_values Jjy = refl

pub some_values : (station : Station) → has_dut1 station ≡ true → 0 < value_count station
some_values Dcf77 has = absurd cc
some_values Msf has = omega arith
some_values Wwvb has = omega arith
some_values Jjy has = absurd cc

map_more : (f : ℤ → ℕ) (xs : List ℤ) (x : ℤ) → map f (xs ++ x ∷ []) ≡ map f xs ++ f x ∷ []
map_more f [] x = refl
map_more f (y ∷ xs) x = ap (λ ys. f y ∷ ys) (map_more f xs x)

-- the least where there is one more value
pub least_with : (cost : ℤ → ℕ) (station : Station) (n a b : ℕ) → Some a ≡ least (map cost (values_below station n)) → b ≡ cost (tenths_at station n)
    → Some (min a b) ≡ least (map cost (values_below station (n + 1)))
least_with cost station n a b before here =
    ap (λ c. Some (min a c)) here ∙ ap (λ (o : Option ℕ). lesser_with o (cost (tenths_at station n))) before
    ∙ sym (least_more (map cost (values_below station n)) (cost (tenths_at station n)))
    ∙ ap least (sym (map_more cost (values_below station n) (tenths_at station n)) ∙ ap (map cost) (sym (map-range_with_len_more (tenths_at station) 0 n n (omega arith))))

among_more : (ds : List ℤ) (d : ℤ) → dut_among (ds ++ d ∷ []) ≡ with_value (dut_among ds) d
among_more [] d = refl
among_more (c ∷ []) d = refl
among_more (c ∷ e ∷ ds) d = refl

-- what is told where one more value costs least, and where it doesn't
pub told_with : (cost : ℤ → ℕ) (station : Station) (n low : ℕ) (found : Dut) → found ≡ dut_among (filter (λ d. cost d == low) (values_below station n))
    → (cost (tenths_at station n) == low) ≡ true
    → with_value found (tenths_at station n) ≡ dut_among (filter (λ d. cost d == low) (values_below station (n + 1)))
told_with cost station n low found before here =
    let d = tenths_at station n in
    ap (λ (f : Dut). with_value f d) before ∙ sym (among_more (filter (λ d. cost d == low) (values_below station n)) d)
    ∙ ap dut_among (sym (filter_of_map_range_with_len_more (λ d. cost d == low) (tenths_at station) 0 n n (omega arith) ∙ rw here refl))

pub told_without : (cost : ℤ → ℕ) (station : Station) (n low : ℕ) (found : Dut) → found ≡ dut_among (filter (λ d. cost d == low) (values_below station n))
    → (cost (tenths_at station n) == low) ≡ false
    → found ≡ dut_among (filter (λ d. cost d == low) (values_below station (n + 1)))
told_without cost station n low found before here =
    before ∙ ap dut_among (sym (filter_of_map_range_with_len_more (λ d. cost d == low) (tenths_at station) 0 n n (omega arith)
    ∙ rw here (append-nil (filter (λ d. cost d == low) (values_below station n)))))

-- what is told within one UTC day
pub dut_in_one_day : (station : Station) (costs : ℕ → ℕ → ℕ) (n : ℕ) (q : Sequence) → has_dut1 station ≡ true → lies_in_one_day n q ≡ true
    → dut_of station costs n q
    ≡ dut_among (filter (λ d. dut1_cost station costs n q d == least_dut1_cost station costs n q) (dut1_values station))
dut_in_one_day station costs n q has one = rw (has, one) refl
