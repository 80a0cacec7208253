-- The minutes that may have a leap second are last minutes of days.
use Rattle.std.proofs.Common.{◌≡◌, ◌≢◌, ℕ, ◌+◌, ◌*◌, ◌%◌, ◌<◌, ◌≤◌, inl, inr, false, true, refl, sym, ◌∙◌, arith}
use Rattle.std.proofs.lemmas.Bool.{cases_eq, cases_lt, false≢true, ne_eqb}
use Rattle.definitions.specs.time.Calendar.{is_leap_end}

no_leap_end : (u : ℕ) → u % 1440 ≢ 1439 → is_leap_end u ≡ false
no_leap_end u early = rw (ne_eqb (u % 1440) 1439 early) refl

pub last_of_day : (u : ℕ) → is_leap_end u ≡ true → u % 1440 ≡ 1439
last_of_day u leap = elim (cases_eq (u % 1440) 1439) [
  | inl last ↦ last
  | inr early ↦ absurd (false≢true (sym (no_leap_end u early) ∙ leap))
]

-- no minute from t on and before another may have a leap second
abbrev pub NoLeapEnd : ℕ → ℕ → Type 0
NoLeapEnd t before = (u : ℕ) → t ≤ u → u < before → is_leap_end u ≡ false

-- up to the last minute of a day
pub up_to_last : (t day : ℕ) → NoLeapEnd t (day * 1440) → NoLeapEnd t (day * 1440 + 1439)
up_to_last t day none u from before = elim (cases_lt u (day * 1440)) [
  | inl early ↦ none u from early
  | inr late ↦ no_leap_end u (λ last. omega (arith, last, late, before))
]

-- and with it
pub one_more : (t n m : ℕ) → m ≡ n + 1 → is_leap_end n ≡ false → NoLeapEnd t n → NoLeapEnd t m
one_more t n m is here none u from before = elim (cases_lt u n) [
  | inl early ↦ none u from early
  | inr late ↦ (let now : u ≡ n = omega (arith, late, before, is) in rw now here)
]
