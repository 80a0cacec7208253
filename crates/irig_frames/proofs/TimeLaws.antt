-- The digits of a time.
use Rattle.std.proofs.Common.{◌≡◌, ℕ, zero, suc, ◌+◌, ◌-◌, ◌*◌, ◌^◌, ◌<◌, ◌≤◌, true, false, List, length, take, get_or, nat_lt, refl, sym, ap, arith, length-take}
use Rattle.std.specs.Fmt.{decimal}
use Rattle.std.specs.Char.{digit_value}
use Rattle.std.specs.Str.Parse.{digits_value, AllDigits}
use Rattle.std.proofs.lemmas.Bool.{lt-ltb, le-ltb}
use Rattle.std.proofs.lemmas.Fmt.{decimal_digit, decimal_is_IsNumeral, first_decimal, length-decimal-le, decimal-digits_value}
use Rattle.std.proofs.lemmas.Int.Digits.{digits_more, digits_value_more}
use Rattle.std.proofs.lemmas.List.{take_all}
use Rattle.std.proofs.lemmas.Str.Parse.{IsNumeralModel, numerals_by_value, tells_digits, digits_value_short, digit_at}
use Rattle.formats.specs.declared.frame.TheConstants.{EDGE_LIMIT}

own : IsNumeralModel (AllDigits 10) (digits_value 10)
own = numerals_by_value (AllDigits 10) tells_digits

-- how a time is spelled
pub record IsTimeText (digits : List ℕ) : Type 0 where
  pub some : 0 < length digits
  pub most : length digits ≤ 13
  pub first : get_or digits 0 0 ≡ 48 → length digits ≡ 1
  pub each : AllDigits 10 digits

first-decimal : (time : ℕ) → time < EDGE_LIMIT → get_or (decimal time) 0 0 ≡ 48 → length (decimal time) ≡ 1
first-decimal zero h e = ap (λ (l : List ℕ). length l) (decimal_digit 0 (omega arith))
first-decimal (suc n) h e = absurd (omega (arith, first_decimal (suc n) (omega arith) (omega arith)))

pub IsTimeText-decimal : (digits : List ℕ) (time : ℕ) → time < EDGE_LIMIT → digits ≡ decimal time → IsTimeText digits
IsTimeText-decimal digits time h e = rw e (record {
  some = (decimal_is_IsNumeral time (omega arith)).0.0;
  most = length-decimal-le 13 time (omega arith) (omega arith) (omega arith);
  first = first-decimal time h;
  each = (decimal_is_IsNumeral time (omega arith)).0.1;
})

digit_value-digit : (c : ℕ) → 48 ≤ c → c ≤ 57 → digit_value c ≡ c - 48
digit_value-digit c low high =
    let a : nat_lt c 48 ≡ false = le-ltb c 48 low in
    let b : nat_lt c 58 ≡ true = lt-ltb c 58 (omega arith) in
    rw (a, b)

-- the digits so far, and the number that they are
pub record ReadsDigits (digits : List ℕ) (i time : ℕ) : Type 0 where
  pub each : AllDigits 10 (take i digits)
  pub value : time ≡ digits_value 10 (take i digits)
  pub below : time < EDGE_LIMIT

pub ReadsDigits-more : (digits : List ℕ) (i time : ℕ) → length digits ≤ 13 → i < length digits → ReadsDigits digits i time → 48 ≤ get_or digits i 0 → get_or digits i 0 ≤ 57 → ReadsDigits digits (i + 1) (time * 10 + (get_or digits i 0 - 48))
ReadsDigits-more digits i time short h so_far low high =
    let same = digit_value-digit (get_or digits i 0) low high in
    let each : AllDigits 10 (take (i + 1) digits) = digits_more 10 digits i h so_far.each (omega arith) in
    let value : time * 10 + (get_or digits i 0 - 48) ≡ digits_value 10 (take (i + 1) digits) = rw (digits_value_more 10 digits i h, same, so_far.value) refl in
    let short' : length (take (i + 1) digits) ≤ 13 = omega (arith, length-take (i + 1) digits) in
    let below : digits_value 10 (take (i + 1) digits) < 10 ^ 13 = digits_value_short own (take (i + 1) digits) 13 each short' in
    record { each = each; value = value; below = omega arith }

pub ReadsDigits-all : (digits : List ℕ) (i time : ℕ) → 0 < length digits → length digits ≤ 13 → (get_or digits 0 0 ≡ 48 → length digits ≡ 1) → length digits ≤ i → ReadsDigits digits i time → (time < EDGE_LIMIT) × (digits ≡ decimal time)
ReadsDigits-all digits i time some most first end read =
    let each : AllDigits 10 digits = rw (take_all i digits end) at read.each in
    let value : time ≡ digits_value 10 digits = rw (take_all i digits end) at read.value in
    let same : decimal (digits_value 10 digits) ≡ digits = decimal-digits_value own digits each some first (omega (arith, read.below)) in
    (read.below, rw value (sym same))

pub not_digit : (digits : List ℕ) (i : ℕ) → i < length digits → (48 ≤ get_or digits i 0 → get_or digits i 0 ≤ 57 → ⊥) → IsTimeText digits → ⊥
not_digit digits i h out text = let at = digit_at digits i text.each h in out at.0 at.1
