-- The digits of a number of 64 bits, and what stands before a byte.
use Rattle.std.proofs.Common.{◌≡◌, ℕ, zero, suc, ◌+◌, ◌-◌, ◌*◌, ◌^◌, ◌<◌, ◌≤◌, ◌==◌, not, cond, Bool, true, false, List, [], ◌∷◌, ◌++◌, length, take, drop, get_or, nat_lt, Some, None, refl, sym, ap, ◌∙◌, subst, arith, length-take}
use Rattle.std.specs.Fmt.{decimal}
use Rattle.std.specs.List.{position, prefix_len}
use Rattle.std.specs.Char.{digit_value}
use Rattle.std.specs.Str.Parse.{digits_value, AllDigits}
use Rattle.std.proofs.Math.Numerals.{add-one}
use Rattle.std.proofs.Math.Seq.{drop-cons}
use Rattle.std.proofs.lemmas.Bool.{eq-eqb, eqb-true, false≢true, ltb-false, lt-ltb, le-ltb}
use Rattle.std.proofs.lemmas.Fmt.{decimal_digit, decimal_is_IsNumeral, first_decimal, length-decimal-le, decimal-digits_value, digits_value-decimal}
use Rattle.std.proofs.lemmas.Int.Digits.{digits_more, digits_value_more}
use Rattle.std.proofs.lemmas.List.{get_or-take, take-append-drop, take_all}
use Rattle.std.proofs.lemmas.List.Quantifiers.{position-Some}
use Rattle.std.proofs.lemmas.List.Sums.{prefix_len_passes}
use Rattle.std.proofs.lemmas.Str.Parse.{IsNumeralModel, numerals_by_value, tells_digits, digits_value_short, digit_at}
use Rattle.certificate_texts.specs.Fields.{HasNo}

own : IsNumeralModel (AllDigits 10) (digits_value 10)
own = numerals_by_value (AllDigits 10) tells_digits

-- how a number is spelled
pub record IsNumberText (digits : List ℕ) : Type 0 where
  pub some : 0 < length digits
  pub most : length digits ≤ 20
  pub first : get_or digits 0 0 ≡ 48 → length digits ≡ 1
  pub each : AllDigits 10 digits
  pub small : digits_value 10 digits < 2 ^ 64

first-decimal : (n : ℕ) → n < 2 ^ 64 → get_or (decimal n) 0 0 ≡ 48 → length (decimal n) ≡ 1
first-decimal zero h e = ap (λ (l : List ℕ). length l) (decimal_digit 0 (omega arith))
first-decimal (suc n) h e = absurd (omega (arith, first_decimal (suc n) (omega arith) h, e))

pub number_text : (digits : List ℕ) (n : ℕ) → n < 2 ^ 64 → decimal n ≡ digits → IsNumberText digits
number_text digits n h e =
    subst IsNumberText e (record {
      some = (decimal_is_IsNumeral n h).0.0;
      most = length-decimal-le 20 n (omega arith) (omega (arith, h)) h;
      first = first-decimal n h;
      each = (decimal_is_IsNumeral n h).0.1;
      small = subst (λ (m : ℕ). m < 2 ^ 64) (sym (digits_value-decimal own n h)) h;
    })

digit_value-digit : (c : ℕ) → 48 ≤ c → c ≤ 57 → digit_value c ≡ c - 48
digit_value-digit c low high =
    let a : nat_lt c 48 ≡ false = le-ltb c 48 low in
    let b : nat_lt c 58 ≡ true = lt-ltb c 58 (omega (arith, high)) in
    rw (a, b) refl

-- the digits so far, and the number that they are
pub record ReadsDigits (digits : List ℕ) (i number : ℕ) : Type 0 where
  pub each : AllDigits 10 (take i digits)
  pub value : number ≡ digits_value 10 (take i digits)
  pub below : number < 10 ^ 20

pub digits_on : (digits : List ℕ) (i number : ℕ) → length digits ≤ 20 → i < length digits → ReadsDigits digits i number → 48 ≤ get_or digits i 0 → get_or digits i 0 ≤ 57
    → ReadsDigits digits (i + 1) (number * 10 + (get_or digits i 0 - 48))
digits_on digits i number short h so_far low high =
    let same = digit_value-digit (get_or digits i 0) low high in
    let each : AllDigits 10 (take (i + 1) digits) = digits_more 10 digits i h so_far.each (omega (arith, same, high)) in
    let value : number * 10 + (get_or digits i 0 - 48) ≡ digits_value 10 (take (i + 1) digits) = rw (digits_value_more 10 digits i h, same, so_far.value) refl in
    let short' : length (take (i + 1) digits) ≤ 20 = omega (arith, length-take (i + 1) digits, short) in
    let below : digits_value 10 (take (i + 1) digits) < 10 ^ 20 = digits_value_short own (take (i + 1) digits) 20 each short' in
    record { each = each; value = value; below = omega (arith, value, below) }

-- all digits are read
pub digits_all : (digits : List ℕ) (i number : ℕ) → 0 < length digits → (get_or digits 0 0 ≡ 48 → length digits ≡ 1) → length digits ≤ i
    → ReadsDigits digits i number → (number ≡ digits_value 10 digits) × (number < 2 ^ 64 → decimal number ≡ digits)
digits_all digits i number some first end read =
    let each : AllDigits 10 digits = rw (take_all i digits end) at read.each in
    let value : number ≡ digits_value 10 digits = rw (take_all i digits end) at read.value in
    (value, λ small. ap decimal value ∙ decimal-digits_value own digits each some first (omega (arith, small, value)))

pub not_digit : (digits : List ℕ) (i : ℕ) → i < length digits → (48 ≤ get_or digits i 0 → get_or digits i 0 ≤ 57 → ⊥) → IsNumberText digits → ⊥
not_digit digits i h out text = let at = digit_at digits i text.each h in out at.0 at.1

-- each byte isn't this one
has_no : (byte : ℕ) (ds : List ℕ) → ((k : ℕ) → k < length ds → get_or ds k 0 ≡ byte → ⊥) → HasNo byte ds
has_no byte [] each = tt
has_no byte (d ∷ ds) each = (each 0 (omega arith), has_no byte ds (λ k h. each (suc k) (omega (arith, h))))

module _ (byte : ℕ) (text : List ℕ) where
  -- what stands before the first, and what behind it
  pub field_before : (end : ℕ) → Some end ≡ position (λ b. b == byte) text → HasNo byte (take end text) × (text ≡ take end text ++ byte ∷ drop (end + 1) text)
  field_before end e =
      let at = position-Some (λ b. b == byte) text end 0 (sym e) in
      let here : get_or text end 0 ≡ byte = eqb-true (get_or text end 0) byte at.1 in
      let parts : take end text ++ get_or text end 0 ∷ drop (suc end) text ≡ text =
      ap (λ l. take end text ++ l) (sym (drop-cons text end 0 at.0)) ∙ take-append-drop end text in (
        has_no byte (take end text) (λ k h same.
            let within : k < end = omega (arith, h, length-take end text) in
            false≢true (sym (at.2 k within) ∙ eq-eqb (get_or text k 0) byte (sym (get_or-take end text k 0 within) ∙ same))),
        sym parts ∙ (ap (λ b. take end text ++ b ∷ drop (suc end) text) here ∙ ap (λ n. take end text ++ byte ∷ drop n text) (sym (add-one end))),
      )

  no_place : (n m : ℕ) → None ≡ cond (nat_lt n m) (Some n) None → m ≤ n
  no_place n m e = go (nat_lt n m) refl e
    where
      go : (t : Bool) → nat_lt n m ≡ t → None ≡ cond t (Some n) None → m ≤ n
      go true t e = absurd cc
      go false t e = ltb-false n m t

  -- a text without it
  pub no_field : None ≡ position (λ b. b == byte) text → HasNo byte text
  no_field e =
      let all = no_place (prefix_len (λ b. not (b == byte)) text) (length text) e in
      has_no byte text (λ k h same.
      let other = prefix_len_passes (λ b. not (b == byte)) text k 0 (omega (arith, h, all)) in
      false≢true (sym (ap not (eq-eqb (get_or text k 0) byte same)) ∙ other))
