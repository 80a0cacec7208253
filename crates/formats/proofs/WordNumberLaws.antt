-- The number and the minute that a text says.
use Rattle.std.proofs.Common.{◌≡◌, ℕ, ◌^◌, ◌<◌, Bool, true, false, if◌then◌else◌, List, bytes_eq, Some, None, refl, subst}
use Rattle.std.specs.Fmt.{decimal}
use Rattle.std.specs.Str.Parse.{digits_value, AllDigits}
use Rattle.std.proofs.lemmas.Fmt.{digits_value-decimal}
use Rattle.std.proofs.lemmas.Slice.Eq.{bytes_eq-Decides}
use Rattle.std.proofs.lemmas.Str.Parse.{IsNumeralModel, numerals_by_value, tells_digits}
use Rattle.formats.specs.WordValues.{number_of, passing}

-- a number that passed
pub passed : (test : ℕ → Bool) (m n : ℕ) → passing test m ≡ Some n → (m ≡ n) × (test n ≡ true)
passed test m n = by_cases (test m) refl
  where
    by_cases : (b : Bool) → test m ≡ b → (if b then Some m else None) ≡ Some n → (m ≡ n) × (test n ≡ true)
    by_cases true good e = let same : m ≡ n = cc in (same, subst (λ k. test k ≡ true) same good)
    by_cases false bad e = absurd cc

own : IsNumeralModel (AllDigits 10) (digits_value 10)
own = numerals_by_value (AllDigits 10) tells_digits

-- a number is said by its decimal text and by no other
pub number_of-text : (text : List ℕ) (n : ℕ) → number_of text ≡ Some n → text ≡ decimal n
unfolding number_of
number_of-text text n e =
    let p = passed (λ m. bytes_eq text (decimal m)) (digits_value 10 text) n e in
    (bytes_eq-Decides text (decimal n)).0 p.1

pub number_of-decimal : (n : ℕ) → n < 2 ^ 64 → number_of (decimal n) ≡ Some n
unfolding number_of
number_of-decimal n small =
    rw (digits_value-decimal own n small, (bytes_eq-Decides (decimal n) (decimal n)).1 refl) refl
