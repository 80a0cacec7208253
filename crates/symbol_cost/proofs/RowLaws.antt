-- Rows to which costs are added symbol by symbol.
use Rattle.std.proofs.Common.{◌≡◌, ◌≢◌, ℕ, zero, suc, ◌+◌, ◌<◌, ◌≤◌, ◌⊎◌, inl, inr, false, replicate, List, length, get_or, set, refl, ap, ◌∙◌, arith, below_more, get_or-set_other, get_or-set_same, [], ◌∷◌, ◌++◌, ◌*◌, zero-add, sum_by, Option, Some, None, min, unwrap_or}
use Rattle.std.proofs.lemmas.Bool.{cases_lt, cases_order}
use Rattle.std.proofs.lemmas.List.{get_or-replicate, get_or_past, length-replicate}
use Rattle.std.proofs.lemmas.List.Sums.{sum_by-append}
use Rattle.std.proofs.Math.ListN.{length-set}
use Rattle.signal_base.specs.declared.station.Station.{Station}
use Rattle.signal_base.specs.declared.station.Station.TheVariants.{Dcf77, Msf, Wwvb, Jjy}
use Rattle.signal_base.specs.declared.tuning.Tuning.{Tuning}
use Rattle.signal_base.specs.declared.tuning.CostTable.{CostTable}
use Rattle.signal_base.specs.Waveform.{symbol_count, waveform}
use Rattle.definitions.specs.heard.Logs.{Records, low_count}
use Rattle.definitions.specs.heard.Receivers.{Reception, receptions}
use Rattle.definitions.specs.heard.Costs.{second_cost, slot_cost, tenth_cost}
use Rattle.definitions.proofs.CostLaws.{lesser_with, receptions_more}
use Rattle.symbol_cost.specs.declared.limits.TheConstants.{RECEIVER_COST}
use Rattle.symbol_cost.specs.Grid.{cost_at}
use Rattle.symbol_cost.specs.Rows.{Adds, heard}

-- what tenth j from millisecond `from` on costs under a symbol
abbrev pub symbol_tenth : CostTable → Records → ℕ → Station → ℕ → ℕ → ℕ
symbol_tenth table log from station x j = tenth_cost table (get_or (waveform station x) j false) (low_count log (from + 100 * j) 100)

-- the first x entries of a row have grown by f, and the others are as before
pub record GrownTo (old row : List ℕ) (x b : ℕ) (f : ℕ → ℕ) : Type 0 where
  pub done : (y : ℕ) → y < x → get_or row y 0 ≡ get_or old y 0 + f y
  pub rest : (y : ℕ) → x ≤ y → get_or row y 0 ≡ get_or old y 0
  pub bound : (y : ℕ) → get_or row y 0 ≤ get_or old y 0 + b

-- an item of a list of which one was set
at_set : {X : Type 0} (xs : List X) (n : ℕ) (v d : X) (k : ℕ) → n < length xs → ((k ≡ n) × (get_or (set xs n v) k d ≡ v)) ⊎ ((k ≢ n) × (get_or (set xs n v) k d ≡ get_or xs k d))
at_set xs n v d k within =
    elim (cases_order k n) [
      | inl same ↦ inl (same, rw same (rw get_or-set_same refl))
      | inr (inl lt) ↦ inr (λ e. omega arith, (let ne : k ≢ n = omega arith in rw get_or-set_other refl))
      | inr (inr gt) ↦ inr (λ e. omega arith, (let ne : k ≢ n = omega arith in rw get_or-set_other refl))
    ]

-- one more entry
pub grown_more : (old row : List ℕ) (x b more : ℕ) (f : ℕ → ℕ) → x < length row → more ≡ f x → more ≤ b → GrownTo old row x b f
    → GrownTo old (set row x (get_or row x 0 + more)) (x + 1) b f
grown_more old row x b more f within is small g =
    let new = set row x (get_or row x 0 + more) in
    record {
      done = below_more (λ y. get_or new y 0 ≡ get_or old y 0 + f y) x
          (λ y h. let ne : y ≢ x = omega arith in rw get_or-set_other (g.done y h))
          (rw get_or-set_same (let same = g.rest x (omega arith) in omega arith));
      rest = λ y h. let ne : y ≢ x = omega arith in rw get_or-set_other (g.rest y (omega arith));
      bound = λ y. elim (at_set row x (get_or row x 0 + more) 0 y within) [
        | inl (same, e) ↦ (let before = g.rest x (omega arith) in let at : get_or old y 0 ≡ get_or old x 0 = ap (λ k. get_or old k 0) same in omega arith)
        | inr (ne, e) ↦ (let before = g.bound y in omega arith)
      ];
    }

-- a row in which each symbol costs nothing
abbrev pub no_costs : List ℕ
no_costs = 0 ∷ 0 ∷ 0 ∷ 0 ∷ 0 ∷ []

pub no_cost : (x : ℕ) → get_or no_costs x 0 ≡ 0
no_cost zero = refl
no_cost (suc zero) = refl
no_cost (suc (suc zero)) = refl
no_cost (suc (suc (suc zero))) = refl
no_cost (suc (suc (suc (suc zero)))) = refl
no_cost (suc (suc (suc (suc (suc x))))) = refl

pub free_rows : (n k x : ℕ) → cost_at (replicate n no_costs) k x ≡ 0
free_rows n k x =
    elim (cases_lt k n) [
      | inl within ↦ ap (λ (row : List ℕ). get_or row x 0) (get_or-replicate n k no_costs [] within) ∙ no_cost x
      | inr past ↦ ap (λ (row : List ℕ). get_or row x 0) (get_or_past (replicate n no_costs) k [] (omega (arith, length-replicate n no_costs)))
    ]

-- in the first n rows each of the first symbols costs so much more, and the other rows are as before
pub record RowsGrownTo (station : Station) (old rows : List (List ℕ)) (n : ℕ) (more : ℕ → ℕ → ℕ) : Type 0 where
  pub slots : length rows ≡ length old
  pub done : (k x : ℕ) → k < n → x < symbol_count station → cost_at rows k x ≡ cost_at old k x + more k x
  pub rest : (k : ℕ) → n ≤ k → get_or rows k [] ≡ get_or old k []
  pub bound : (k x : ℕ) → cost_at rows k x ≤ cost_at old k x + RECEIVER_COST

-- one more row
pub rows_more : (station : Station) (old rows : List (List ℕ)) (n : ℕ) (row : List ℕ) (more : ℕ → ℕ → ℕ) → n < length rows
    → Adds station (get_or rows n []) row (more n) → ((x : ℕ) → get_or row x 0 ≤ get_or (get_or rows n []) x 0 + RECEIVER_COST)
    → RowsGrownTo station old rows n more → RowsGrownTo station old (set rows n row) (n + 1) more
rows_more station old rows n row more within adds small g =
    let new = set rows n row in
    let before : get_or rows n [] ≡ get_or old n [] = g.rest n (omega arith) in
    record {
      slots = length-set rows n row ∙ g.slots;
      done = λ k x h s. below_more (λ y. cost_at new y x ≡ cost_at old y x + more y x) n
          (λ y l. let ne : y ≢ n = omega arith in rw get_or-set_other (g.done y x l s))
          (rw get_or-set_same (adds x s ∙ ap (λ (r : List ℕ). get_or r x 0 + more n x) before)) k h;
      rest = λ k h. let ne : k ≢ n = omega arith in rw get_or-set_other (g.rest k (omega arith));
      bound = λ k x. elim (at_set rows n row [] k within) [
        | inl (same, e) ↦ rw (e, same, ← before) (small x)
        | inr (ne, e) ↦ rw e (g.bound k x)
      ];
    }

-- a station has at most five symbols
pub few_symbols : (station : Station) → symbol_count station ≤ 5
few_symbols Dcf77 = omega arith
few_symbols Msf = omega arith
few_symbols Wwvb = omega arith
few_symbols Jjy = omega arith

-- the lesser of a number that there may be and one more
pub lesser_of : (o : Option ℕ) (c : ℕ) → Some (min (unwrap_or o c) c) ≡ lesser_with o c
lesser_of None c = let same : min c c ≡ c = omega arith in rw same refl
lesser_of (Some b) c = refl

-- one more receiver
pub slot_cost_more : (table : CostTable) (ts : List Tuning) (ls : List Records) (t : Tuning) (l : Records) (station : Station) (begin k x : ℕ) → length ts ≡ length ls
    → slot_cost table (receptions (ts ++ t ∷ []) (ls ++ l ∷ [])) station begin k x
    ≡ slot_cost table (receptions ts ls) station begin k x + second_cost table (heard t l) station (begin + t.delay + 1000 * k) x
slot_cost_more table ts ls t l station begin k x same =
    let f = λ (r : Reception). second_cost table r station (begin + r.tuning.delay + 1000 * k) x in
    ap (sum_by f) (receptions_more ts ls t l same) ∙ sum_by-append f (receptions ts ls) (heard t l ∷ [])
    ∙ ap (λ n. sum_by f (receptions ts ls) + n) (zero-add (f (heard t l)))
