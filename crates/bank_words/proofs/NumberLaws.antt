-- The numbers that texts say, as the code reads them.
use Rattle.std.proofs.Common.{◌≡◌, ◌≢◌, ℕ, ◌^◌, ◌<◌, true, false, List, [], ◌∷◌, length, get_or, Some, Ok, Err, ◌⊎◌, refl, sym, ap, subst, ◌∙◌, inl, inr, arith, le-leb}
use Rattle.std.specs.Fmt.{decimal}
use Rattle.std.specs.Str.Parse.{AllDigits, ParsesUnsigned, digits_value}
use Rattle.std.proofs.lemmas.Bool.{and_parts, cases_eq, leb-true}
use Rattle.std.proofs.lemmas.Fmt.{decimal_digit, decimal-digits_value, decimal_nonempty, digits_decimal, first_decimal, parse-decimal}
use Rattle.std.proofs.lemmas.Str.Parse.{IsNumeralModel, digit_at, numerals_by_value, parse_plain, tells_digits}
use Rattle.formats.specs.WordValues.{number_of}
use Rattle.formats.proofs.WordNumberLaws.{number_of-decimal, number_of-text}
use Rattle.bank_words.specs.Plain.{is_plain}

own : IsNumeralModel (AllDigits 10) (digits_value 10)
own = numerals_by_value (AllDigits 10) tells_digits

-- numbers begin so
decimal_plain : (n : ℕ) → n < 2 ^ 64 → is_plain (decimal n) ≡ true
decimal_plain n small =
    by_zero (cases_eq n 0)
  where
    by_text : (ds : List ℕ) → AllDigits 10 ds → 0 < length ds → 48 < get_or ds 0 0 → is_plain ds ≡ true
    by_text [] digits some more = absurd (omega arith)
    by_text (b ∷ []) digits some more = let is = digit_at (b ∷ []) 0 digits (omega arith) in rw (le-leb 48 b (omega arith), le-leb b 57 (omega (arith, is))) refl
    by_text (b ∷ c ∷ bs) digits some more = let is = digit_at (b ∷ c ∷ bs) 0 digits (omega arith) in rw (le-leb 49 b (omega arith), le-leb b 57 (omega (arith, is))) refl

    by_zero : (n ≡ 0) ⊎ (n ≡ 0 → ⊥) → is_plain (decimal n) ≡ true
    by_zero (inl zero) = rw (zero, decimal_digit 0 (omega arith)) refl
    by_zero (inr more) = by_text (decimal n) (digits_decimal own n small) (decimal_nonempty n small) (first_decimal n (omega arith) small)

-- a text that begins otherwise says none
pub no_plain : (text : List ℕ) → is_plain text ≡ false → (n : ℕ) → n < 2 ^ 64 → number_of text ≢ Some n
no_plain text other n small e =
    let plain : is_plain text ≡ true = subst (λ t. is_plain t ≡ true) (sym (number_of-text text n e)) (decimal_plain n small) in
    cc

-- how it begins
no_sign : (text : List ℕ) → is_plain text ≡ true → get_or text 0 0 ≢ 43
no_sign [] plain = absurd cc
no_sign (b ∷ []) plain = let is = and_parts _ _ plain in let from = leb-true 48 b is.0 in (λ e. omega arith)
no_sign (b ∷ c ∷ bs) plain = let is = and_parts _ _ plain in let from = leb-true 49 b is.0 in (λ e. omega arith)

no_needless_zero : (text : List ℕ) → is_plain text ≡ true → get_or text 0 0 ≡ 48 → length text ≡ 1
no_needless_zero [] plain zero = absurd cc
no_needless_zero (b ∷ []) plain zero = refl
no_needless_zero (b ∷ c ∷ bs) plain zero = let is = and_parts _ _ plain in let from = leb-true 49 b is.0 in absurd (omega arith)

-- what is parsed is said, and what isn't parsed isn't said
module _ (text : List ℕ) (plain : is_plain text ≡ true) where
  pub parsed : (n : ℕ) → ParsesUnsigned {E = Unit {0}} 64 10 text (Ok n) → number_of text ≡ Some n
  parsed n parses =
      let is = parse_plain own {E = Unit {0}} 64 text (Ok n) parses (no_sign text plain) in
      let spelled : decimal (digits_value 10 text) ≡ text = decimal-digits_value own text is.0.0 is.0.1 (no_needless_zero text plain) is.0.2 in
      let same : decimal n ≡ text = ap decimal is.1 ∙ spelled in
      subst (λ t. number_of t ≡ Some n) same (number_of-decimal n (omega (arith, is.0.2, is.1)))

  pub not_parsed : {E : Type 0} (e : E) → ParsesUnsigned 64 10 text (Err e) → (n : ℕ) → n < 2 ^ 64 → number_of text ≢ Some n
  not_parsed e parses n small said =
      let ok : Err e ≡ Ok n = parse-decimal 64 n text (Err e) small small (number_of-text text n said) parses in
      absurd cc
