-- The line of an edge: a text begins with one edge at most, and whether it does can be decided.
use Rattle.std.proofs.Common.{◌≡◌, ℕ, suc, ◌-◌, ◌<◌, ◌≤◌, ◌⊎◌, inl, inr, List, [], ◌∷◌, ◌++◌, length, take, get_or, refl, sym, ap, ◌∙◌, subst, arith, append_assoc, length-append}
use Rattle.std.specs.Fmt.{decimal}
use Rattle.std.specs.Str.Parse.{digits_value}
use Rattle.std.proofs.Math.Seq.{take-append_seam}
use Rattle.std.proofs.lemmas.Bool.{cases_eq, cases_lt}
use Rattle.std.proofs.lemmas.Fmt.{decimal_is_IsNumeral, decimal_injective}
use Rattle.std.proofs.lemmas.List.{append_cancel_right}
use Rattle.std.proofs.lemmas.Str.Parse.{digit_at}
use Rattle.definitions.proofs.ExistLaws.{Decided}
use Rattle.formats.specs.declared.frame.TheConstants.{EDGE_LIMIT}
use Rattle.formats.specs.Bytes.{line_feed, space}
use Rattle.formats.specs.Frames.{edge}
use Rattle.formats.specs.FrameTexts.{BeginsWithEdge}
use Rattle.formats.proofs.LineLaws.{decide_bytes}

-- none of the bytes is c
abbrev pub Avoids : ℕ → List ℕ → Type 0
Avoids c [] = Unit {0}
Avoids c (b ∷ bs) = (b ≡ c → ⊥) × Avoids c bs

heads : (x y : ℕ) (xs ys : List ℕ) → x ∷ xs ≡ y ∷ ys → x ≡ y
heads x y xs ys e = cc

tails : (x y : ℕ) (xs ys : List ℕ) → x ∷ xs ≡ y ∷ ys → xs ≡ ys
tails x y xs ys e = cc

-- there is one first c
pub split_once : (c : ℕ) (xs ys r s : List ℕ) → Avoids c xs → Avoids c ys → xs ++ c ∷ r ≡ ys ++ c ∷ s → (xs ≡ ys) × (r ≡ s)
split_once c [] [] r s a b e = (refl, tails c c r s e)
split_once c [] (y ∷ ys) r s a b e = absurd (b.0 (sym (heads c y r (ys ++ c ∷ s) e)))
split_once c (x ∷ xs) [] r s a b e = absurd (a.0 (heads x c (xs ++ c ∷ r) s e))
split_once c (x ∷ xs) (y ∷ ys) r s a b e =
    let first = heads x y (xs ++ c ∷ r) (ys ++ c ∷ s) e in
    let more = split_once c xs ys r s a.1 b.1 (tails x y (xs ++ c ∷ r) (ys ++ c ∷ s) e) in
    (ap (λ k. k ∷ xs) first ∙ ap (λ l. y ∷ l) more.0, more.1)

not_avoided : (c : ℕ) (xs r : List ℕ) → Avoids c (xs ++ c ∷ r) → ⊥
not_avoided c [] r a = a.0 refl
not_avoided c (x ∷ xs) r a = not_avoided c xs r a.1

pub avoids_each : (c : ℕ) (ds : List ℕ) → ((k : ℕ) → k < length ds → get_or ds k 0 ≡ c → ⊥) → Avoids c ds
avoids_each c [] each = tt
avoids_each c (d ∷ ds) each = (each 0 (omega arith), avoids_each c ds (λ k h. each (suc k) (omega (arith, h))))

avoids_append : (c : ℕ) (xs ys : List ℕ) → Avoids c xs → Avoids c ys → Avoids c (xs ++ ys)
avoids_append c [] ys a b = b
avoids_append c (x ∷ xs) ys a b = (a.0, avoids_append c xs ys a.1 b)

-- the first line, if a text has one
line_end : (bs : List ℕ) → Avoids line_feed bs ⊎ ((front : List ℕ) × (back : List ℕ) × Avoids line_feed front × (bs ≡ front ++ line_feed ∷ back))
line_end [] = inl tt
line_end (b ∷ bs) = go (cases_eq b line_feed) (line_end bs)
  where
    go : (b ≡ line_feed) ⊎ (b ≡ line_feed → ⊥) → Avoids line_feed bs ⊎ ((front : List ℕ) × (back : List ℕ) × Avoids line_feed front × (bs ≡ front ++ line_feed ∷ back))
        → Avoids line_feed (b ∷ bs) ⊎ ((front : List ℕ) × (back : List ℕ) × Avoids line_feed front × (b ∷ bs ≡ front ++ line_feed ∷ back))
    go (inl e) rest = inr ([], bs, tt, ap (λ k. k ∷ bs) e)
    go (inr n) (inl a) = inl (n, a)
    go (inr n) (inr h) = inr (b ∷ h.0, h.1, (n, h.2), ap (λ l. b ∷ l) h.3)

-- the bytes of an edge before its LF
abbrev pub edge_bytes : ℕ → ℕ → List ℕ
edge_bytes letter ms = decimal ms ++ space ∷ letter ∷ []

decimal_avoids : (ms : ℕ) → ms < EDGE_LIMIT → Avoids line_feed (decimal ms)
decimal_avoids ms small =
    let numeral = (decimal_is_IsNumeral ms (omega (arith, small))).0 in
    avoids_each line_feed (decimal ms) (λ k h e. let digit = digit_at (decimal ms) k numeral.1 h in omega (arith, digit.0, e))

module _ (letter : ℕ) (is_letter : line_feed < letter) where
  pub front_avoids : (ms : ℕ) → ms < EDGE_LIMIT → Avoids line_feed (edge_bytes letter ms)
  front_avoids ms small =
      avoids_append line_feed (decimal ms) (space ∷ letter ∷ []) (decimal_avoids ms small)
      (λ e. omega (arith, e), (λ e. omega (arith, e, is_letter), tt))

  pub apart : (ms : ℕ) (tail : List ℕ) → edge letter ms ++ tail ≡ edge_bytes letter ms ++ line_feed ∷ tail
  apart ms tail = append_assoc (edge_bytes letter ms) (line_feed ∷ []) tail

  -- a text begins with one edge at most
  pub edge_once : (m n : ℕ) (r s : List ℕ) → m < EDGE_LIMIT → n < EDGE_LIMIT → edge letter m ++ r ≡ edge letter n ++ s → (m ≡ n) × (r ≡ s)
  edge_once m n r s small also e =
      let same = split_once line_feed (edge_bytes letter m) (edge_bytes letter n) r s (front_avoids m small) (front_avoids n also) (sym (apart m r) ∙ (e ∙ apart n s)) in
      (decimal_injective m n (omega (arith, small)) (omega (arith, also)) (append_cancel_right (decimal m) (decimal n) (space ∷ letter ∷ []) same.0), same.1)

  -- the number before the last two bytes
  abbrev pub number_in : List ℕ → ℕ
  number_in bytes = digits_value 10 (take (length bytes - 2) bytes)

  number_in-front : (ms : ℕ) → ms < EDGE_LIMIT → number_in (edge_bytes letter ms) ≡ ms
  number_in-front ms small =
      let long : length (edge_bytes letter ms) - 2 ≡ length (decimal ms) = omega (arith, length-append (decimal ms) (space ∷ letter ∷ [])) in
      ap (λ n. digits_value 10 (take n (edge_bytes letter ms))) long
      ∙ (ap (digits_value 10) (take-append_seam (decimal ms) (space ∷ letter ∷ [])) ∙ (decimal_is_IsNumeral ms (omega (arith, small))).1)

  abbrev Begins : List ℕ → Type 0
  Begins rest = (ms : ℕ) × BeginsWithEdge letter rest ms

  -- whether it begins with one
  pub decide_edge : (rest : List ℕ) → Decided ((ms : ℕ) × BeginsWithEdge letter rest ms)
  decide_edge rest = go (line_end rest)
    where
      whole : (f back : List ℕ) → Avoids line_feed f → rest ≡ f ++ line_feed ∷ back → (h : Begins rest) → edge_bytes letter h.0 ≡ f
      whole f back a e h =
          (split_once line_feed (edge_bytes letter h.0) f h.1.1.0 back (front_avoids h.0 h.1.0) a (sym (apart h.0 h.1.1.0) ∙ (sym h.1.1.1 ∙ e))).0

      of_line : (f back : List ℕ) → Avoids line_feed f → rest ≡ f ++ line_feed ∷ back
          → (number_in f < EDGE_LIMIT) ⊎ (EDGE_LIMIT ≤ number_in f) → Decided (f ≡ edge_bytes letter (number_in f)) → Decided (Begins rest)
      of_line f back a e (inl lt) (inl same) =
          inl (number_in f, (lt, (back, e ∙ (ap (λ l. l ++ line_feed ∷ back) same ∙ sym (apart (number_in f) back)))))
      of_line f back a e (inr ge) d =
          inr (λ h. omega (arith, ge, h.1.0, sym (ap number_in (whole f back a e h)) ∙ number_in-front h.0 h.1.0))
      of_line f back a e (inl lt) (inr n) =
          inr (λ h. n (sym (whole f back a e h) ∙ ap (edge_bytes letter) (sym (number_in-front h.0 h.1.0) ∙ ap number_in (whole f back a e h))))

      go : Avoids line_feed rest ⊎ ((f : List ℕ) × (back : List ℕ) × Avoids line_feed f × (rest ≡ f ++ line_feed ∷ back)) → Decided (Begins rest)
      go (inl a) = inr (λ h. not_avoided line_feed (edge_bytes letter h.0) h.1.1.0 (subst (Avoids line_feed) (h.1.1.1 ∙ apart h.0 h.1.1.0) a))
      go (inr l) = of_line l.0 l.1 l.2 l.3 (cases_lt (number_in l.0) EDGE_LIMIT) (decide_bytes l.0 (edge_bytes letter (number_in l.0)))

  -- a line that isn't of an edge: it isn't what the number in it is written as, or that number is too large
  pub no_edge_line : (f back : List ℕ) → Avoids line_feed f → (EDGE_LIMIT ≤ number_in f) ⊎ (edge_bytes letter (number_in f) ≡ f → ⊥)
      → (ms : ℕ) → BeginsWithEdge letter (f ++ line_feed ∷ back) ms → ⊥
  no_edge_line f back a other ms h = go other
    where
      same : edge_bytes letter ms ≡ f
      same = (split_once line_feed (edge_bytes letter ms) f h.1.0 back (front_avoids ms h.0) a (sym (apart ms h.1.0) ∙ sym h.1.1)).0

      number : number_in f ≡ ms
      number = sym (ap number_in same) ∙ number_in-front ms h.0

      go : (EDGE_LIMIT ≤ number_in f) ⊎ (edge_bytes letter (number_in f) ≡ f → ⊥) → ⊥
      go (inl large) = omega (arith, large, h.0, number)
      go (inr not) = not (ap (edge_bytes letter) number ∙ same)

  pub no_edge_end : (rest : List ℕ) → Avoids line_feed rest → (ms : ℕ) → BeginsWithEdge letter rest ms → ⊥
  no_edge_end rest a ms h = not_avoided line_feed (edge_bytes letter ms) h.1.0 (subst (Avoids line_feed) (h.1.1 ∙ apart ms h.1.0) a)

-- an edge is not nothing
pub edge_some : (letter ms : ℕ) (tail : List ℕ) → 0 < length (edge letter ms ++ tail)
edge_some letter ms tail =
    omega (arith, length-append (edge letter ms) tail, length-append (edge_bytes letter ms) (line_feed ∷ []))

pub no_edge : (letter ms : ℕ) (tail : List ℕ) → [] ≡ edge letter ms ++ tail → ⊥
no_edge letter ms tail e = omega (arith, edge_some letter ms tail, ap (λ (l : List ℕ). length l) e)
