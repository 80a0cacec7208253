-- Groups of seconds with a parity bit. Sums of bits are nested to the left and begin with 0, as they are computed.
use Rattle.std.proofs.Common.{◌≡◌, ◌⊎◌, ℕ, ◌+◌, ◌-◌, ◌*◌, ◌%◌, ◌<◌, ◌≤◌, Bool, true, false, ◌&&◌, ◌==◌, nat_lt, if◌then◌else◌, sum_by, [], ◌∷◌, refl, arith}
use Rattle.std.specs.List.{range_with_len}
use Rattle.std.proofs.lemmas.Bool.{lt-ltb, ne_eqb}
use Rattle.std.proofs.lemmas.Bool.Decides.{nat_tests}
use Rattle.definitions.specs.declared.dcf77.DcfFacts.{DcfFacts}
use Rattle.definitions.specs.declared.jjy.JjyFacts.{JjyFacts}
use Rattle.definitions.specs.declared.msf.MsfFacts.{MsfFacts}
use Rattle.definitions.specs.codes.Vocabulary.{only, free, unscored, no_second, is_one_of, is_within}
use Rattle.definitions.specs.codes.Dcf77 as dcf
use Rattle.definitions.specs.codes.Jjy as jjy
use Rattle.definitions.specs.codes.Msf as msf
use Rattle.definitions.specs.codes.Parity.{CarriesBit, IsEvenGroup, CarriesPair, IsOddGroup}
use Rattle.definitions.proofs.SetLaws.{IsBit, dcf_bit, bit_a, bit_b, jjy_bit}

-- a sum that ends with its own parity is even
pub even : (n : ℕ) → (n + n % 2) % 2 ≡ 0
even n = omega arith

-- a sum that ends with the other parity is odd
pub odd : (n : ℕ) → (n + (n + 1) % 2) % 2 ≡ 1
odd n = omega arith

-- 6 bits of a day, 3 of a weekday, 5 of a month and 8 of a year
pub date_sum : (a b c d e f g h i j k l m n o p q r s t u v : ℕ)
    → (0 + a + b + c + d + e + f) + (0 + g + h + i) + (0 + j + k + l + m + n) + (0 + o + p + q + r + s + t + u + v)
    ≡ 0 + a + b + c + d + e + f + g + h + i + j + k + l + m + n + o + p + q + r + s + t + u + v
date_sum a b c d e f g h i j k l m n o p q r s t u v = omega arith

-- 5 bits of a month and 6 of a day
pub month_and_day : (a b c d e f g h i j k : ℕ) → (0 + a + b + c + d + e) + (0 + f + g + h + i + j + k) ≡ 0 + a + b + c + d + e + f + g + h + i + j + k
month_and_day a b c d e f g h i j k = omega arith

-- 6 bits of an hour and 7 of a minute
pub hour_and_minute : (a b c d e f g h i j k l m : ℕ) → (0 + a + b + c + d + e + f) + (0 + g + h + i + j + k + l + m) ≡ 0 + a + b + c + d + e + f + g + h + i + j + k + l + m
hour_and_minute a b c d e f g h i j k l m = omega arith

-- the bits of JJY's hour and minute, without and with the 0 of a second between them
pub jjy_hour : (a b c d e f : ℕ) → 0 + a + b + c + d + e + f ≡ 0 + a + b + 0 + c + d + e + f
jjy_hour a b c d e f = omega arith

pub jjy_minute : (a b c d e f g : ℕ) → 0 + a + b + c + d + e + f + g ≡ 0 + a + b + c + 0 + d + e + f + g
jjy_minute a b c d e f g = omega arith

-- a second after some others
late : (first last s : ℕ) → last < s → is_within first last s ≡ false
late first last s gt = grind (arith, nat_tests)

soon : (first last s : ℕ) → s < first → is_within first last s ≡ false
soon first last s lt = grind (arith, nat_tests)

-- a second of DCF77 that carries a bit
dcf_carries : (f : DcfFacts) (s : ℕ) → 16 ≤ s → s < 59 → CarriesBit (dcf.dcf_second f) (dcf.dcf_bit f) s
unfolding IsBit
dcf_carries f s from to = (dcf_bit f s, by_length f.long)
  where
    by_length : (long : Bool)
        → (if nat_lt s (if long then 61 else 60)
        then (if s == (if long then 60 else 59) then only dcf.no_reduction else if is_within 1 15 s then free else only (dcf.dcf_bit f s))
        else no_second)
        ≡ only (dcf.dcf_bit f s)
    by_length true = rw (lt-ltb s 61 (omega (arith, to)), ne_eqb s 60 (λ e. omega (arith, e, to)), late 1 15 s (omega (arith, from))) refl
    by_length false = rw (lt-ltb s 60 (omega (arith, to)), ne_eqb s 59 (λ e. omega (arith, e, to)), late 1 15 s (omega (arith, from))) refl

pub dcf_group : (f : DcfFacts) (first n last : ℕ) → 16 ≤ first → first + n ≤ 59 → 16 ≤ last → last < 59
    → (sum_by (dcf.dcf_bit f) (range_with_len first n) + dcf.dcf_bit f last) % 2 ≡ 0
    → IsEvenGroup (dcf.dcf_second f) first n last
dcf_group f first n last from to after before even = record {
  bits = dcf.dcf_bit f;
  each = λ s le lt. dcf_carries f s (omega (arith, from, le)) (omega (arith, to, lt));
  parity = dcf_carries f last after before;
  even = even;
}

-- a code second of MSF that carries two bits, and where it is sent
code_carries : (f : MsfFacts) (s : ℕ) → 17 ≤ s → msf.code_second f s ≡ only (2 * msf.bit_a f s + msf.bit_b f s)
code_carries f s from = rw (ne_eqb s 0 (λ e. omega (arith, e, from)), late 1 16 s (omega (arith, from))) refl

msf_carries : (f : MsfFacts) (s : ℕ) → f.long ≡ false → 17 ≤ s → s < 60 → CarriesPair (msf.msf_second f) (msf.bit_a f) (msf.bit_b f) s
unfolding IsBit
msf_carries f s short from to =
    (bit_a f s, bit_b f s, rw (short, lt-ltb s 60 (omega (arith, to))) (code_carries f s from))

msf_carries_late : (f : MsfFacts) (s : ℕ) → f.long ≡ true → 18 ≤ s → s < 61
    → CarriesPair (msf.msf_second f) (λ s. msf.bit_a f (s - 1)) (λ s. msf.bit_b f (s - 1)) s
unfolding IsBit
msf_carries_late f s long from to = (
  bit_a f (s - 1),
  bit_b f (s - 1),
  rw (long, lt-ltb s 61 (omega (arith, to)), ne_eqb s 17 (λ e. omega (arith, e, from)), lt-ltb 17 s (omega (arith, from)))
      (code_carries f (s - 1) (omega (arith, from))),
)

pub msf_group : (f : MsfFacts) (first n last : ℕ) → 17 ≤ first → first + n ≤ 60 → 17 ≤ last → last < 60
    → (sum_by (msf.bit_a f) (range_with_len first n) + msf.bit_b f last) % 2 ≡ 1
    → (sum_by (λ s. msf.bit_a f (s - 1)) (range_with_len (first + 1) n) + msf.bit_b f (last + 1 - 1)) % 2 ≡ 1
    → (long : Bool) → f.long ≡ long
    → IsOddGroup (msf.msf_second f) (if long then first + 1 else first) n (if long then last + 1 else last)
msf_group f first n last from to after before odd late false e = record {
  a = msf.bit_a f;
  b = msf.bit_b f;
  each = λ s le lt. msf_carries f s e (omega (arith, from, le)) (omega (arith, to, lt));
  parity = msf_carries f last e after before;
  odd = odd;
}
msf_group f first n last from to after before odd late true e = record {
  a = λ s. msf.bit_a f (s - 1);
  b = λ s. msf.bit_b f (s - 1);
  each = λ s le lt. msf_carries_late f s e (omega (arith, from, le)) (omega (arith, to, lt));
  parity = msf_carries_late f (last + 1) e (omega (arith, after)) (omega (arith, before));
  odd = late;
}

-- before the call sign a minute with one carries its bits
not_called : (f : JjyFacts) (s : ℕ) → s < 40 → (call : Bool)
    → (if call && is_within 40 48 s then unscored else if call && is_within 50 55 s then free else only (jjy.jjy_bit f s)) ≡ only (jjy.jjy_bit f s)
not_called f s early true = rw (soon 40 48 s early, soon 50 55 s (omega (arith, early))) refl
not_called f s early false = refl

-- a second of JJY that carries a bit
jjy_carries : (f : JjyFacts) (s : ℕ) → jjy.is_marked f s ≡ false → s < 40 → CarriesBit (jjy.jjy_second f) (jjy.jjy_bit f) s
unfolding IsBit
jjy_carries f s plain early = (jjy_bit f s, by_length f.long)
  where
    by_length : (long : Bool)
        → (if nat_lt s (if long then 61 else 60)
        then (
        if jjy.is_marked f s then only jjy.marker
        else if jjy.is_call_minute f && is_within 40 48 s then unscored
        else if jjy.is_call_minute f && is_within 50 55 s then free
        else only (jjy.jjy_bit f s)
        )
        else no_second)
        ≡ only (jjy.jjy_bit f s)
    by_length true = rw (lt-ltb s 61 (omega (arith, early)), plain) (not_called f s early (jjy.is_call_minute f))
    by_length false = rw (lt-ltb s 60 (omega (arith, early)), plain) (not_called f s early (jjy.is_call_minute f))

pub jjy_group : (f : JjyFacts) (first n last : ℕ) → ((s : ℕ) → first ≤ s → s < first + n → jjy.is_marked f s ≡ false)
    → first + n ≤ 40 → jjy.is_marked f last ≡ false → last < 40
    → (sum_by (jjy.jjy_bit f) (range_with_len first n) + jjy.jjy_bit f last) % 2 ≡ 0
    → IsEvenGroup (jjy.jjy_second f) first n last
jjy_group f first n last plain to end before even = record {
  bits = jjy.jjy_bit f;
  each = λ s le lt. jjy_carries f s (plain s le lt) (omega (arith, to, lt));
  parity = jjy_carries f last end before;
  even = even;
}

-- no marker stands between these
pub unmarked : (f : JjyFacts) (s : ℕ) → (0 < s × s < 9) ⊎ ((9 < s × s < 19) ⊎ (29 < s × s < 39)) → jjy.is_marked f s ≡ false
unmarked f s between = by_length f.long
  where
    by_length : (long : Bool) → is_one_of (0 ∷ 9 ∷ 19 ∷ 29 ∷ 39 ∷ 49 ∷ (if long then 60 else 59) ∷ []) s ≡ false
    by_length true = grind (arith, nat_tests)
    by_length false = grind (arith, nat_tests)
