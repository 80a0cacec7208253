-- What counts of the costs of a second.
use Rattle.std.proofs.Common.{◌≡◌, ℕ, zero, suc, ◌+◌, ◌-◌, ◌<◌, List, Option, Some, None, min, map, unwrap_or, refl, sym, ap, ◌∙◌, subst, arith, add-one, zero-add}
use Rattle.std.specs.List.{range_with_len}
use Rattle.std.proofs.lemmas.List.FromFn.{map-range_with_len_more}
use Rattle.signal_base.specs.declared.station.Station.{Station}
use Rattle.signal_base.specs.Waveform.{symbol_count}
use Rattle.definitions.specs.heard.Costs.{counted, least}
use Rattle.definitions.proofs.CostLaws.{lesser_with, least_more}

-- the least of the first n costs
abbrev pub least_first : (ℕ → ℕ) → ℕ → Option ℕ
least_first f n = least (map f (range_with_len 0 n))

-- one more cost
pub least_first-more : (f : ℕ → ℕ) (n : ℕ) → least_first f (n + 1) ≡ lesser_with (least_first f n) (f n)
least_first-more f n = ap least (map-range_with_len_more f 0 n n (zero-add n)) ∙ least_more (map f (range_with_len 0 n)) (f n)

firsts_same : (f g : ℕ → ℕ) (n : ℕ) → ((x : ℕ) → x < n → f x ≡ g x) → map f (range_with_len 0 n) ≡ map g (range_with_len 0 n)
firsts_same f g zero same = refl
firsts_same f g (suc n) same =
    let before = firsts_same f g n (λ x h. same x (omega arith)) in
    let last = same n (omega arith) in
    subst (λ m. map f (range_with_len 0 m) ≡ map g (range_with_len 0 m)) (add-one n)
    (map-range_with_len_more f 0 n n (zero-add n) ∙ rw (before, last) (sym (map-range_with_len_more g 0 n n (zero-add n))))

-- what counts hangs on the costs of the station's symbols alone
pub counted_same : (second : Option ℕ) (station : Station) (f g : ℕ → ℕ) → ((x : ℕ) → x < symbol_count station → f x ≡ g x)
    → (x : ℕ) → x < symbol_count station → counted second station f x ≡ counted second station g x
counted_same None station f g same x h = same x h
counted_same (Some most) station f g same x h =
    ap (λ c. min most c - unwrap_or (least_first (λ y. min most (f y)) (symbol_count station)) 0) (same x h)
    ∙ ap (λ (cs : List ℕ). min most (g x) - unwrap_or (least cs) 0)
    (firsts_same (λ y. min most (f y)) (λ y. min most (g y)) (symbol_count station) (λ y l. ap (min most) (same y l)))
