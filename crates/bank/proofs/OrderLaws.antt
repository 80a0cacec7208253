-- Lists in the order of stations: a stable sort by station leads to one, and what is made of each keeps it.
use Rattle.std.proofs.Common.{◌≡◌, ℕ, suc, ◌<◌, ◌≤◌, Bool, true, false, ◌==◌, ◌&&◌, not, if◌then◌else◌, List, [], ◌∷◌, ◌++◌, length, filter, map, get_or, refl, sym, ap, ◌∙◌, ◌⊎◌, inl, inr, ⊎_elim, arith}
use Rattle.std.proofs.lemmas.List.{map-append}
use Rattle.std.specs.List.Sorted.{IsNonDecreasingBy, IsStableByKey, ties}
use Rattle.std.specs.Ordering.{is_lt, nat_cmp}
use Rattle.signal_base.specs.declared.station.Station.{Station}
use Rattle.signal_base.specs.declared.station.Station.TheVariants.{Dcf77, Msf, Wwvb, Jjy}
use Rattle.signal_base.specs.Number.{number_of}
use Rattle.bank.specs.Order.{in_station_order, of_station}

module _ {A : Type 0} (station : A → Station) where
  abbrev place : A → ℕ
  place x = number_of (station x)

  -- each of the list has at least this place
  abbrev AtLeast : ℕ → List A → Type 0
  AtLeast n xs = (i : ℕ) (d : A) → i < length xs → n ≤ place (get_or xs i d)

  rest_at_least : (x : A) (xs : List A) (n : ℕ) → AtLeast n (x ∷ xs) → AtLeast n xs
  rest_at_least x xs n all i d below = all (suc i) d (omega arith)

  -- those of a station before that place are none
  none_before : (s : Station) (n : ℕ) (xs : List A) → number_of s < n → AtLeast n xs → of_station station s xs ≡ []
  none_before s n [] below all = refl
  none_before s n (x ∷ xs) below all =
      let first : n ≤ place x = all 0 x (omega arith) in
      let other : (place x == number_of s) ≡ false = grind arith in
      ap (λ b. if b then x ∷ of_station station s xs else of_station station s xs) other ∙ none_before s n xs below (rest_at_least x xs n all)

  kept : (s : Station) (x : A) (xs : List A) → station x ≡ s → of_station station s (x ∷ xs) ≡ x ∷ of_station station s xs
  kept s x xs is =
      let same : (place x == number_of s) ≡ true = grind arith in
      ap (λ b. if b then x ∷ of_station station s xs else of_station station s xs) same

  left_out : (s t : Station) (x : A) (xs : List A) → station x ≡ t → (number_of t == number_of s) ≡ false → of_station station s (x ∷ xs) ≡ of_station station s xs
  left_out s t x xs is other =
      ap (λ b. if b then x ∷ of_station station s xs else of_station station s xs) (ap (λ u. number_of u == number_of s) is ∙ other)

  abbrev joined : List A → List A → List A → List A → List A
  joined d m w j = d ++ (m ++ (w ++ (j ++ [])))

  same_parts : (a b c d e f g h : List A) → a ≡ e → b ≡ f → c ≡ g → d ≡ h → joined a b c d ≡ joined e f g h
  same_parts a b c d e f g h p q r s = cc

  one_before : (x : A) (xs : List A) (s : Station) → station x ≡ s → AtLeast (place x) xs → xs ≡ in_station_order station xs → x ∷ xs ≡ in_station_order station (x ∷ xs)
  one_before x xs Dcf77 is low order =
      ap (λ ys. x ∷ ys) order
      ∙ sym (same_parts _ _ _ _ (x ∷ of_station station Dcf77 xs) (of_station station Msf xs) (of_station station Wwvb xs) (of_station station Jjy xs)
      (kept Dcf77 x xs is) (left_out Msf Dcf77 x xs is refl) (left_out Wwvb Dcf77 x xs is refl) (left_out Jjy Dcf77 x xs is refl))
  one_before x xs Msf is low order =
      let no_dcf = none_before Dcf77 (place x) xs (omega (arith, ap number_of is)) low in
      ap (λ ys. x ∷ ys) (order ∙ same_parts _ _ _ _ [] (of_station station Msf xs) (of_station station Wwvb xs) (of_station station Jjy xs) no_dcf refl refl refl)
      ∙ sym (same_parts _ _ _ _ [] (x ∷ of_station station Msf xs) (of_station station Wwvb xs) (of_station station Jjy xs)
      (left_out Dcf77 Msf x xs is refl ∙ no_dcf) (kept Msf x xs is) (left_out Wwvb Msf x xs is refl) (left_out Jjy Msf x xs is refl))
  one_before x xs Wwvb is low order =
      let no_dcf = none_before Dcf77 (place x) xs (omega (arith, ap number_of is)) low in
      let no_msf = none_before Msf (place x) xs (omega (arith, ap number_of is)) low in
      ap (λ ys. x ∷ ys) (order ∙ same_parts _ _ _ _ [] [] (of_station station Wwvb xs) (of_station station Jjy xs) no_dcf no_msf refl refl)
      ∙ sym (same_parts _ _ _ _ [] [] (x ∷ of_station station Wwvb xs) (of_station station Jjy xs)
      (left_out Dcf77 Wwvb x xs is refl ∙ no_dcf) (left_out Msf Wwvb x xs is refl ∙ no_msf) (kept Wwvb x xs is) (left_out Jjy Wwvb x xs is refl))
  one_before x xs Jjy is low order =
      let no_dcf = none_before Dcf77 (place x) xs (omega (arith, ap number_of is)) low in
      let no_msf = none_before Msf (place x) xs (omega (arith, ap number_of is)) low in
      let no_wwvb = none_before Wwvb (place x) xs (omega (arith, ap number_of is)) low in
      ap (λ ys. x ∷ ys) (order ∙ same_parts _ _ _ _ [] [] [] (of_station station Jjy xs) no_dcf no_msf no_wwvb refl)
      ∙ sym (same_parts _ _ _ _ [] [] [] (x ∷ of_station station Jjy xs)
      (left_out Dcf77 Jjy x xs is refl ∙ no_dcf) (left_out Msf Jjy x xs is refl ∙ no_msf) (left_out Wwvb Jjy x xs is refl ∙ no_wwvb) (kept Jjy x xs is))

  -- a list that rises by station is in their order
  pub rising : (xs : List A) → IsNonDecreasingBy place xs → xs ≡ in_station_order station xs
  rising [] up = refl
  rising (x ∷ xs) up =
      one_before x xs (station x) refl (λ i d below. up 0 (suc i) d (omega arith) (omega arith))
      (rising xs (λ i j d first last. up (suc i) (suc j) d (omega arith) (omega arith)))

  -- a station has none in the list, or there is something of this station
  some_or_none : (s : Station) (xs : List A) → (of_station station s xs ≡ []) ⊎ ((x : A) × (place x ≡ number_of s))
  some_or_none s [] = inl refl
  some_or_none s (x ∷ xs) = first (some_or_none s xs) (place x == number_of s) refl
    where
      first : ((of_station station s xs ≡ []) ⊎ ((y : A) × (place y ≡ number_of s))) → (b : Bool) → (place x == number_of s) ≡ b
          → (of_station station s (x ∷ xs) ≡ []) ⊎ ((y : A) × (place y ≡ number_of s))
      first rest true e = inr (x, grind arith)
      first (inl none) false e = inl (ap (λ b. if b then x ∷ of_station station s xs else of_station station s xs) e ∙ none)
      first (inr some) false e = inr some

  tie : (m n : ℕ) → (not (is_lt (nat_cmp m n)) && not (is_lt (nat_cmp n m))) ≡ (n == m)
  tie m n = grind arith

  -- those of a station stand as before
  stable_at : (xs ys : List A) (s : Station) (z : A) → place z ≡ number_of s → IsStableByKey place nat_cmp xs ys → of_station station s ys ≡ of_station station s xs
  stable_at xs ys s z is stable =
      let same : ties (λ x y. is_lt (nat_cmp (place x) (place y))) z ≡ (λ x. place x == number_of s) = λ i x. (tie (place z) (place x) ∙ ap (λ n. place x == n) is) i in
      sym (ap (λ p. filter p ys) same) ∙ stable z ∙ ap (λ p. filter p xs) same

  stable_all : (xs ys : List A) (s : Station) → IsStableByKey place nat_cmp xs ys → of_station station s ys ≡ of_station station s xs
  stable_all xs ys s stable =
      ⊎_elim (λ none. ⊎_elim (λ also. also ∙ sym none) (λ z. stable_at xs ys s z.0 z.1 stable) (some_or_none s ys)) (λ z. stable_at xs ys s z.0 z.1 stable) (some_or_none s xs)

  -- what is sorted by station, stably, is in their order
  pub sorted : (xs ys : List A) → IsNonDecreasingBy place ys → IsStableByKey place nat_cmp xs ys → ys ≡ in_station_order station xs
  sorted xs ys up stable =
      rising ys up ∙ same_parts _ _ _ _ _ _ _ _ (stable_all xs ys Dcf77 stable) (stable_all xs ys Msf stable) (stable_all xs ys Wwvb stable) (stable_all xs ys Jjy stable)

-- what is made of each keeps the order
module _ {A B : Type 0} (f : A → B) (station : B → Station) where
  map_of_station : (s : Station) (xs : List A) → map f (of_station (λ x. station (f x)) s xs) ≡ of_station station s (map f xs)
  map_of_station s [] = refl
  map_of_station s (x ∷ xs) =
      either (number_of (station (f x)) == number_of s)
      ∙ ap (λ ys. if number_of (station (f x)) == number_of s then f x ∷ ys else ys) (map_of_station s xs)
    where
      either : (b : Bool) → map f (if b then x ∷ of_station (λ y. station (f y)) s xs else of_station (λ y. station (f y)) s xs)
          ≡ (if b then f x ∷ map f (of_station (λ y. station (f y)) s xs) else map f (of_station (λ y. station (f y)) s xs))
      either true = refl
      either false = refl

  pub map_in_order : (xs : List A) → map f (in_station_order (λ x. station (f x)) xs) ≡ in_station_order station (map f xs)
  map_in_order xs =
      let of : Station → List A = λ s. of_station (λ x. station (f x)) s xs in
      map-append f (of Dcf77) (of Msf ++ (of Wwvb ++ (of Jjy ++ [])))
      ∙ ap (λ ys. map f (of Dcf77) ++ ys) (map-append f (of Msf) (of Wwvb ++ (of Jjy ++ []))
      ∙ ap (λ ys. map f (of Msf) ++ ys) (map-append f (of Wwvb) (of Jjy ++ []) ∙ ap (λ ys. map f (of Wwvb) ++ ys) (map-append f (of Jjy) [])))
      ∙ same_parts station _ _ _ _ _ _ _ _ (map_of_station Dcf77 xs) (map_of_station Msf xs) (map_of_station Wwvb xs) (map_of_station Jjy xs)
