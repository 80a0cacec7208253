-- The two least keys of a list do not depend on its order, and a key that two others do not exceed may go.
use Rattle.std.proofs.Common.{◌≡◌, ℕ, ◌≤◌, List, [], ◌∷◌, min, max, sym, refl, ap, ◌∙◌, ⊎_elim, arith}
use Rattle.std.proofs.lemmas.Bool.{cases_lt}
use Rattle.race_words.specs.declared.ends.Ends.{Ends}
use Rattle.race_words.specs.Keys.{no_key, with_key, two_least}

pub same_ends : (p q : Ends) → p.least ≡ q.least → p.second ≡ q.second → p ≡ q
same_ends p q least second = λ i. record { least = least i; second = second i }

min_left : (a b : ℕ) → a ≤ b → min a b ≡ a
min_left a b h = omega arith

min_right : (a b : ℕ) → b ≤ a → min a b ≡ b
min_right a b h = omega arith

max_left : (a b : ℕ) → b ≤ a → max a b ≡ a
max_left a b h = omega arith

max_right : (a b : ℕ) → a ≤ b → max a b ≡ b
max_right a b h = omega arith

min_turned : (a b c : ℕ) → min a (min b c) ≡ min b (min a c)
min_turned a b c = omega arith

-- the second-least of three numbers, and the least of it and another, do not depend on the order of the first two
Median : ℕ → ℕ → ℕ → ℕ → Type 0
Median x y a b = min (max x (min y a)) (min (max y a) b) ≡ min (max y (min x a)) (min (max x a) b)

median_low : (x y a b : ℕ) → x ≤ y → a ≤ x → Median x y a b
unfolding Median
median_low x y a b up low = let under : a ≤ y = omega arith in rw (min_right y a under, min_right x a low, max_left x a low, max_left y a under) (min_turned x y b)

median_mid : (x y a b : ℕ) → x ≤ a → a ≤ y → Median x y a b
unfolding Median
median_mid x y a b low high = let up : x ≤ y = omega arith in rw (min_right y a high, min_left x a low, max_right x a low, max_left y a high, max_left y x up) (min_turned a y b)

median_high : (x y a b : ℕ) → x ≤ y → y ≤ a → Median x y a b
unfolding Median
median_high x y a b up high =
    let over : x ≤ a = omega arith in rw (min_left y a high, min_left x a over, max_right x y up, max_right y a high, max_left y x up, max_right x a over) refl

median_up : (x y a b : ℕ) → x ≤ y → Median x y a b
median_up x y a b up =
    ⊎_elim (λ low. median_low x y a b up (omega arith)) (λ x_first. ⊎_elim (λ low. median_mid x y a b x_first (omega arith)) (λ high. median_high x y a b up high) (cases_lt a y)) (cases_lt a x)

median : (x y a b : ℕ) → Median x y a b
unfolding Median
median x y a b = ⊎_elim (λ up. median_up x y a b (omega arith)) (λ down. sym (median_up y x a b down)) (cases_lt x y)

pub with_key_swap : (x y : ℕ) (p : Ends) → with_key x (with_key y p) ≡ with_key y (with_key x p)
unfolding Median
with_key_swap x y p = same_ends (with_key x (with_key y p)) (with_key y (with_key x p)) (omega arith) (median x y p.least p.second)

pub two_least_bound : (xs : List ℕ) → ((two_least xs).least ≤ no_key) × ((two_least xs).second ≤ no_key)
two_least_bound [] = (omega arith, omega arith)
two_least_bound (x ∷ xs) = let rest = two_least_bound xs in (omega arith, omega arith)

pub with_no_key : (xs : List ℕ) → with_key no_key (two_least xs) ≡ two_least xs
with_no_key xs = let bound = two_least_bound xs in same_ends (with_key no_key (two_least xs)) (two_least xs) (omega arith) (omega arith)

-- of three numbers that rise, the last is not one of the two least of them and others
Spared : ℕ → ℕ → ℕ → ℕ → ℕ → Type 0
Spared l m g a b = min (max l (min m (min g a))) (min (max m (min g a)) (min (max g a) b)) ≡ min (max l (min m a)) (min (max m a) b)

min_spared : (m g b : ℕ) → m ≤ g → min m (min g b) ≡ min m b
min_spared m g b h = omega arith

spared_over : (l m g a b : ℕ) → m ≤ g → a ≤ m → Spared l m g a b
unfolding Spared
spared_over l m g a b high under =
    let below : a ≤ g = omega arith in rw (min_right g a below, max_left g a below, max_left m a under, min_spared m g b high) refl

min_max_spared : (g a b : ℕ) → min (min g a) (min (max g a) b) ≡ min (min g a) b
min_max_spared g a b = omega arith

min_min_spared : (m g a b : ℕ) → m ≤ g → min m (min (min g a) b) ≡ min m (min a b)
min_min_spared m g a b h = omega arith

le_min : (m g a : ℕ) → m ≤ g → m ≤ a → m ≤ min g a
le_min m g a p q = omega arith

spared_under : (l m g a b : ℕ) → l ≤ m → m ≤ g → m ≤ a → Spared l m g a b
unfolding Spared
spared_under l m g a b low high over =
    let both = le_min m g a high over in
    rw (min_left m (min g a) both, max_right m (min g a) both, min_left m a over, max_right m a over, max_right l m low, min_max_spared g a b) (min_min_spared m g a b high)

spared : (l m g a b : ℕ) → l ≤ m → m ≤ g → Spared l m g a b
spared l m g a b low high = ⊎_elim (λ under. spared_over l m g a b high (omega arith)) (λ over. spared_under l m g a b low high over) (cases_lt a m)

-- the greatest of three keys is not one of the two least
pub third_goes : (l m g : ℕ) (p : Ends) → l ≤ m → m ≤ g → with_key l (with_key m (with_key g p)) ≡ with_key l (with_key m p)
unfolding Spared
third_goes l m g p low high =
    same_ends (with_key l (with_key m (with_key g p))) (with_key l (with_key m p)) (ap (min l) (min_spared m g p.least high)) (spared l m g p.least p.second low high)

-- two keys may be told apart by which is less
pub pair_sorted : (k l : ℕ) (p : Ends) → with_key (min l k) (with_key (max k l) p) ≡ with_key k (with_key l p)
pair_sorted k l p = ⊎_elim
    (λ less. let le : l ≤ k = omega arith in rw (min_left l k le, max_left k l le) (with_key_swap l k p))
    (λ le. rw (min_right l k le, max_right k l le) refl)
    (cases_lt l k)

-- of two keys, the greater may go where a third is above neither
pub greater_goes : (l s c : ℕ) (p : Ends) → l ≤ s → l ≤ c → with_key l (with_key (min s c) p) ≡ with_key l (with_key s (with_key c p))
greater_goes l s c p low lower = ⊎_elim
    (λ less. let le : s ≤ c = omega arith in ap (λ m. with_key l (with_key m p)) (min_left s c le) ∙ sym (third_goes l s c p low le))
    (λ le. ap (λ m. with_key l (with_key m p)) (min_right s c le) ∙ (sym (third_goes l c s p lower le) ∙ ap (with_key l) (with_key_swap c s p)))
    (cases_lt s c)
