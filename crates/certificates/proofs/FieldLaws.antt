-- The fields of a line: what each is written as tells it, and none has a space or an LF.
use Rattle.std.proofs.Common.{◌≡◌, ℕ, suc, ◌^◌, ◌<◌, inl, inr, Bool, true, false, not, ◌==◌, if◌then◌else◌, List, [], ◌∷◌, ◌++◌, get_or, count_by, ◌+◌, ◌*◌, Option, Some, None, refl, sym, ap, ◌∙◌, subst, arith, append_assoc}
use Rattle.std.specs.Fmt.{decimal}
use Rattle.std.specs.List.{list_all}
use Rattle.std.proofs.lemmas.Bool.{and_parts, cases_order, eq-eqb}
use Rattle.std.proofs.lemmas.Fmt.{decimal_is_IsNumeral, decimal_injective}
use Rattle.std.proofs.lemmas.List.{append_cancel_left}
use Rattle.std.proofs.lemmas.Str.Parse.{digit_at}
use Rattle.definitions.specs.declared.block.Span.{Span}
use Rattle.definitions.specs.declared.block.Span.TheVariants.{Year, Day, Hour, Minute}
use Rattle.formats.specs.Bytes.{line, line_feed, space}
use Rattle.formats.specs.Refusals.{named_key}
use Rattle.formats.proofs.FrameEdgeLaws.{Avoids, avoids_each, split_once}
use Rattle.certificates.specs.declared.certificate.Kind.{Kind}
use Rattle.certificates.specs.declared.certificate.Kind.TheVariants.{Opened, Pruned, Empty, Leaf}
use Rattle.certificates.specs.Texts.{announced_text, kind_text, span_text, stations_by, stations_text}

-- none of the bytes is c, as a test tells
not_both : (b : Bool) → not b ≡ true → b ≡ true → ⊥
not_both true e f = absurd cc
not_both false e f = absurd cc

pub avoids_by : (c : ℕ) (xs : List ℕ) → list_all (λ b. not (b == c)) xs ≡ true → Avoids c xs
avoids_by c [] e = tt
avoids_by c (x ∷ xs) e =
    let both = and_parts (not (x == c)) (list_all (λ b. not (b == c)) xs) e in
    ((λ same. not_both (x == c) both.0 (eq-eqb x c same)), avoids_by c xs both.1)

pub avoids_append : (c : ℕ) (xs ys : List ℕ) → Avoids c xs → Avoids c ys → Avoids c (xs ++ ys)
avoids_append c [] ys a b = b
avoids_append c (x ∷ xs) ys a b = (a.0, avoids_append c xs ys a.1 b)

-- a number is small enough that its text tells it
abbrev pub IsSmall : Option ℕ → Type 0
IsSmall None = Unit {0}
IsSmall (Some n) = n < 2 ^ 64

module _ (c : ℕ) (low : c < 45) where
  pub decimal_avoids : (n : ℕ) → n < 2 ^ 64 → Avoids c (decimal n)
  decimal_avoids n small =
      let numeral = (decimal_is_IsNumeral n small).0 in
      avoids_each c (decimal n) (λ k h e. let digit = digit_at (decimal n) k numeral.1 h in omega (arith, digit.0, e, low))

  pub named_avoids : (v : Option ℕ) → IsSmall v → Avoids c (named_key v)
  named_avoids None small = ((λ e. omega (arith, e, low)), tt)
  named_avoids (Some n) small = decimal_avoids n small

  pub kind_avoids : (k : Kind) → Avoids c (kind_text k)
  kind_avoids Opened = ((λ e. omega (arith, e, low)), tt)
  kind_avoids Pruned = ((λ e. omega (arith, e, low)), tt)
  kind_avoids Empty = ((λ e. omega (arith, e, low)), tt)
  kind_avoids Leaf = ((λ e. omega (arith, e, low)), tt)

  pub span_avoids : (s : Span) → Avoids c (span_text s)
  span_avoids Year = ((λ e. omega (arith, e, low)), tt)
  span_avoids Day = ((λ e. omega (arith, e, low)), tt)
  span_avoids Hour = ((λ e. omega (arith, e, low)), tt)
  span_avoids Minute = ((λ e. omega (arith, e, low)), tt)

  pub announced_avoids : (a : Bool) → Avoids c (announced_text a)
  announced_avoids true = ((λ e. omega (arith, e, low)), tt)
  announced_avoids false = ((λ e. omega (arith, e, low)), tt)

  pub space_avoids : (xs ys : List ℕ) → c < 32 → Avoids c xs → Avoids c ys → Avoids c (xs ++ space ∷ ys)
  space_avoids xs ys lower a b = avoids_append c xs (space ∷ ys) a ((λ e. omega (arith, e, lower)), b)

-- what a field is written as tells it
no_digit : (n : ℕ) → n < 2 ^ 64 → named_key None ≡ decimal n → ⊥
no_digit n small e =
    let numeral = (decimal_is_IsNumeral n small).0 in
    let digit = digit_at (decimal n) 0 numeral.1 numeral.0 in
    omega (arith, digit.0, ap (λ (l : List ℕ). get_or l 0 0) e)

pub named_once : (v w : Option ℕ) → IsSmall v → IsSmall w → named_key v ≡ named_key w → v ≡ w
named_once None None small also e = refl
named_once None (Some n) small also e = absurd (no_digit n also e)
named_once (Some m) None small also e = absurd (no_digit m small (sym e))
named_once (Some m) (Some n) small also e = ap Some (decimal_injective m n small also e)

abbrev kind_by : ℕ → Kind
kind_by b = if b == 79 then Opened else if b == 80 then Pruned else if b == 69 then Empty else Leaf

kind_told : (k : Kind) → kind_by (get_or (kind_text k) 0 0) ≡ k
kind_told Opened = refl
kind_told Pruned = refl
kind_told Empty = refl
kind_told Leaf = refl

pub kind_once : (a b : Kind) → kind_text a ≡ kind_text b → a ≡ b
kind_once a b e = sym (kind_told a) ∙ (ap (λ (l : List ℕ). kind_by (get_or l 0 0)) e ∙ kind_told b)

abbrev span_by : ℕ → Span
span_by b = if b == 89 then Year else if b == 68 then Day else if b == 72 then Hour else Minute

span_told : (s : Span) → span_by (get_or (span_text s) 0 0) ≡ s
span_told Year = refl
span_told Day = refl
span_told Hour = refl
span_told Minute = refl

pub span_once : (a b : Span) → span_text a ≡ span_text b → a ≡ b
span_once a b e = sym (span_told a) ∙ (ap (λ (l : List ℕ). span_by (get_or l 0 0)) e ∙ span_told b)

announced_told : (a : Bool) → (get_or (announced_text a) 0 0 == 49) ≡ a
announced_told true = refl
announced_told false = refl

pub announced_once : (a b : Bool) → announced_text a ≡ announced_text b → a ≡ b
announced_once a b e = sym (announced_told a) ∙ (ap (λ (l : List ℕ). get_or l 0 0 == 49) e ∙ announced_told b)

-- what holds of each mask holds below 16
one_more : (P : ℕ → Type 0) (n : ℕ) → ((m : ℕ) → m < n → P m) → P n → (m : ℕ) → m < suc n → P m
one_more P n before here m lt = elim (cases_order m n) [
  | inl same ↦ subst P (sym same) here
  | inr apart ↦ elim apart [ inl less ↦ before m less | inr more ↦ absurd (omega arith) ]
]

-- the names of stations tell the mask: only one has a d, only one an m, a v or a y
abbrev count : ℕ → List ℕ → ℕ
count byte xs = count_by (λ b. b == byte) xs

abbrev mask_by : List ℕ → ℕ
mask_by xs = count 100 xs + 2 * count 109 xs + 4 * count 118 xs + 8 * count 121 xs

abbrev mask_text : ℕ → List ℕ
mask_text mask = stations_text (stations_by mask)

abbrev IsTold : ℕ → Type 0
IsTold mask = (mask_by (mask_text mask) ≡ mask) × (list_all (λ b. not (b == line_feed)) (mask_text mask) ≡ true)

masks_told : (mask : ℕ) → mask < 16 → IsTold mask
masks_told =
    one_more IsTold 15 (one_more IsTold 14 (one_more IsTold 13 (one_more IsTold 12 (one_more IsTold 11 (one_more IsTold 10 (one_more IsTold 9 (one_more IsTold 8
    (one_more IsTold 7 (one_more IsTold 6 (one_more IsTold 5 (one_more IsTold 4 (one_more IsTold 3 (one_more IsTold 2 (one_more IsTold 1 (one_more IsTold 0
    (λ m lt. absurd (omega (arith, lt)))
    (refl, refl)) (refl, refl)) (refl, refl)) (refl, refl)) (refl, refl)) (refl, refl)) (refl, refl)) (refl, refl))
    (refl, refl)) (refl, refl)) (refl, refl)) (refl, refl)) (refl, refl)) (refl, refl)) (refl, refl)) (refl, refl)

pub stations_avoid : (mask : ℕ) → mask < 16 → Avoids line_feed (stations_text (stations_by mask))
stations_avoid mask small = avoids_by line_feed (stations_text (stations_by mask)) (masks_told mask small).1

pub stations_once : (a b : ℕ) → a < 16 → b < 16 → stations_text (stations_by a) ≡ stations_text (stations_by b) → a ≡ b
stations_once a b small also e = sym (masks_told a small).0 ∙ (ap mask_by e ∙ (masks_told b also).0)

-- a line and what comes after it
pub apart : (xs r : List ℕ) → line xs ++ r ≡ xs ++ line_feed ∷ r
apart xs r = append_assoc xs (line_feed ∷ []) r

pub lines_once : (xs ys r s : List ℕ) → Avoids line_feed xs → Avoids line_feed ys → line xs ++ r ≡ line ys ++ s → (xs ≡ ys) × (r ≡ s)
lines_once xs ys r s a b e = split_once line_feed xs ys r s a b (sym (apart xs r) ∙ (e ∙ apart ys s))

-- a word and a number, or -
pub word_once : (word : List ℕ) (v w : Option ℕ) (r s : List ℕ) → Avoids line_feed word → IsSmall v → IsSmall w
    → line (word ++ named_key v) ++ r ≡ line (word ++ named_key w) ++ s → (v ≡ w) × (r ≡ s)
word_once word v w r s avoids small also e =
    let same = lines_once (word ++ named_key v) (word ++ named_key w) r s
    (avoids_append line_feed word (named_key v) avoids (named_avoids line_feed (omega arith) v small))
    (avoids_append line_feed word (named_key w) avoids (named_avoids line_feed (omega arith) w also)) e in
    (named_once v w small also (append_cancel_left word (named_key v) (named_key w) same.0), same.1)
