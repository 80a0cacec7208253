-- How costs add up, and that they are small.
use Rattle.std.proofs.Common.{◌≡◌, ℕ, zero, suc, ◌+◌, ◌*◌, ◌<◌, ◌≤◌, List, [], ◌∷◌, ◌++◌, length, Option, Some, None, unwrap_or, Bool, true, false, min, fold, map, filter, if◌then◌else◌, ◌==◌, refl, sym, ap, ◌∙◌, subst, arith, add-one, add-zero, zero-add, suc-mul}
use Rattle.std.specs.Option.{option_map_or}
use Rattle.std.proofs.lemmas.List.{append-nil, map-append}
use Rattle.std.proofs.lemmas.List.Elements.{filter-append}
use Rattle.signal_base.specs.declared.tuning.Tuning.{Tuning}
use Rattle.definitions.specs.declared.level.Level.{Level}
use Rattle.definitions.specs.declared.level.Level.TheVariants.{High, Low, Unknown}
use Rattle.definitions.specs.heard.Logs.{Records, low_count, count_level, level_at}
use Rattle.definitions.specs.heard.Receivers.{receptions}
use Rattle.definitions.specs.heard.Costs.{sum_below, least, set_cost}
use Rattle.signal_base.specs.declared.station.Station.{Station}
use Rattle.signal_base.specs.Waveform.{symbol_count}
use Rattle.definitions.specs.codes.Vocabulary.{unscored}
use Rattle.std.specs.List.{range_with_len}
use Rattle.signal_base.specs.Mask.{has_bit}

-- a count of milliseconds is at most their number
abbrev pub IsAtMost : ℕ → Option ℕ → Type 0
IsAtMost n None = Unit {0}
IsAtMost n (Some c) = c ≤ n

count_level_bound : (n : ℕ) (level : Level) (o : Option ℕ) → IsAtMost n o → IsAtMost (suc n) (count_level level o)
count_level_bound n level None h = tt
count_level_bound n Low (Some c) h = omega arith
count_level_bound n High (Some c) h = omega arith
count_level_bound n Unknown (Some c) h = tt

pub low_count_bound : (log : Records) (m n : ℕ) → IsAtMost n (low_count log m n)
unfolding low_count
low_count_bound log m zero = omega arith
low_count_bound log m (suc n) = count_level_bound n (level_at log (m + n)) (low_count log m n) (low_count_bound log m n)

-- one more term of a sum
pub sum_below_more : (n : ℕ) (f : ℕ → ℕ) → sum_below (n + 1) f ≡ sum_below n f + f n
unfolding sum_below
sum_below_more n f = rw add-one refl

pub sum_below_none : (f : ℕ → ℕ) → sum_below 0 f ≡ 0
unfolding sum_below
sum_below_none f = refl

-- sums of the same terms
pub sum_below_same : (n : ℕ) (f g : ℕ → ℕ) → ((k : ℕ) → k < n → f k ≡ g k) → sum_below n f ≡ sum_below n g
unfolding sum_below
sum_below_same zero f g same = refl
sum_below_same (suc n) f g same =
    let before = sum_below_same n f g (λ k h. same k (omega arith)) in
    let last = same n (omega arith) in
    omega arith

-- a sum of small terms
pub sum_below_bound : (n b : ℕ) (f : ℕ → ℕ) → ((k : ℕ) → k < n → f k ≤ b) → sum_below n f ≤ n * b
unfolding sum_below
sum_below_bound zero b f small = omega arith
sum_below_bound (suc n) b f small =
    let before = sum_below_bound n b f (λ k h. small k (omega arith)) in
    let last = small n (omega arith) in
    omega (arith, suc-mul n b)

-- one more receiver
pub receptions_more : (ts : List Tuning) (ls : List Records) (t : Tuning) (l : Records) → length ts ≡ length ls
    → receptions (ts ++ t ∷ []) (ls ++ l ∷ []) ≡ receptions ts ls ++ record { tuning = t; log = l } ∷ []
receptions_more [] [] t l same = refl
receptions_more [] (m ∷ ls) t l same = absurd (omega arith)
receptions_more (u ∷ ts) [] t l same = absurd (omega arith)
receptions_more (u ∷ ts) (m ∷ ls) t l same = ap (λ rs. record { tuning = u; log = m } ∷ rs) (receptions_more ts ls t l (omega arith))

fold_more : (b : ℕ) (cs : List ℕ) (c : ℕ) → fold min b (cs ++ c ∷ []) ≡ min (fold min b cs) c
fold_more b [] c = refl
fold_more b (d ∷ cs) c = fold_more (min b d) cs c

-- the lesser of a number that there may be and one more
abbrev pub lesser_with : Option ℕ → ℕ → Option ℕ
lesser_with o c = Some (option_map_or (λ b. min b c) o c)

-- one more cost
pub least_more : (cs : List ℕ) (c : ℕ) → least (cs ++ c ∷ []) ≡ lesser_with (least cs) c
least_more [] c = refl
least_more (b ∷ cs) c = ap Some (fold_more b cs c)

range_more : (a n : ℕ) → range_with_len a (suc n) ≡ range_with_len a n ++ (a + n) ∷ []
range_more a zero = ap (λ x. x ∷ []) (sym (add-zero a))
range_more a (suc n) =
    let next : a + 1 + n ≡ a + suc n = omega arith in
    ap (λ xs. a ∷ xs) (range_more (a + 1) n ∙ ap (λ x. range_with_len (a + 1) n ++ x ∷ []) next)

-- one more symbol of a set
pub chosen_more : (costs : ℕ → ℕ) (set n : ℕ) → map costs (filter (has_bit set) (range_with_len 0 (n + 1)))
    ≡ map costs (filter (has_bit set) (range_with_len 0 n)) ++ (if has_bit set n then costs n ∷ [] else [])
chosen_more costs set n =
    ap (λ xs. map costs (filter (has_bit set) xs)) (rw add-one (range_more 0 n) ∙ ap (λ x. range_with_len 0 n ++ x ∷ []) (zero-add n)) ∙ ap (map costs) (filter-append (has_bit set) (range_with_len 0 n) (n ∷ []))
    ∙ map-append costs (filter (has_bit set) (range_with_len 0 n)) (filter (has_bit set) (n ∷ [])) ∙ last (has_bit set n) refl
  where
    last : (b : Bool) → has_bit set n ≡ b → map costs (filter (has_bit set) (range_with_len 0 n)) ++ map costs (filter (has_bit set) (n ∷ [])) ≡ map costs (filter (has_bit set) (range_with_len 0 n)) ++ (if has_bit set n then costs n ∷ [] else [])
    last true e = rw e refl
    last false e = rw e refl

-- what is the least of the first n symbols of a set
abbrev pub least_below : (ℕ → ℕ) → ℕ → ℕ → Option ℕ
least_below costs set n = least (map costs (filter (has_bit set) (range_with_len 0 n)))

-- one more symbol that the set has
pub least_below-in : (costs : ℕ → ℕ) (set n : ℕ) → has_bit set n ≡ true → least_below costs set (n + 1) ≡ lesser_with (least_below costs set n) (costs n)
least_below-in costs set n e =
    ap least (chosen_more costs set n ∙ rw e refl) ∙ least_more (map costs (filter (has_bit set) (range_with_len 0 n))) (costs n)

-- one more symbol that the set doesn't have
pub least_below-out : (costs : ℕ → ℕ) (set n : ℕ) → has_bit set n ≡ false → least_below costs set (n + 1) ≡ least_below costs set n
least_below-out costs set n e = ap least (chosen_more costs set n ∙ rw e (append-nil (map costs (filter (has_bit set) (range_with_len 0 n)))))

-- the lesser of small costs is small
pub lesser_with_bound : (n : ℕ) (o : Option ℕ) (c : ℕ) → IsAtMost n o → c ≤ n → IsAtMost n (lesser_with o c)
lesser_with_bound n None c h small = small
lesser_with_bound n (Some b) c h small = omega arith

pub unwrap_bound : (n : ℕ) (o : Option ℕ) → IsAtMost n o → unwrap_or o 0 ≤ n
unwrap_bound n None h = omega arith
unwrap_bound n (Some c) h = h

chosen_same : (f g : ℕ → ℕ) (set n : ℕ) → ((x : ℕ) → x < n → f x ≡ g x) → map f (filter (has_bit set) (range_with_len 0 n)) ≡ map g (filter (has_bit set) (range_with_len 0 n))
chosen_same f g set zero same = refl
chosen_same f g set (suc n) same =
    let before = chosen_same f g set n (λ x h. same x (omega arith)) in
    let last = same n (omega arith) in
    subst (λ m. map f (filter (has_bit set) (range_with_len 0 m)) ≡ map g (filter (has_bit set) (range_with_len 0 m))) (add-one n)
    (chosen_more f set n ∙ rw (before, last) (sym (chosen_more g set n)))

-- a set costs the same where its station's symbols do
pub set_cost_same : (station : Station) (f g : ℕ → ℕ) (set : ℕ) → ((x : ℕ) → x < symbol_count station → f x ≡ g x) → set_cost station f set ≡ set_cost station g set
set_cost_same station f g set same =
    ap (λ (cs : List ℕ). if set == unscored then 0 else unwrap_or (least cs) 0) (chosen_same f g set (symbol_count station) same)
