-- A union is one number, and costs no more than any of the sets in it.
use Rattle.std.proofs.Common.{◌≡◌, ◌≢◌, ℕ, zero, suc, ◌+◌, ◌*◌, ◌/◌, ◌%◌, ◌^◌, ◌<◌, ◌≤◌, ◌⊎◌, inl, inr, Bool, true, false, ◌==◌, if◌then◌else◌, min, Option, Some, None, unwrap_or, refl, sym, ap, ◌∙◌, subst, arith, add-one}
use Rattle.std.proofs.lemmas.Bool.{cases_order, eqb-true, eq-eqb, ne_eqb}
use Rattle.signal_base.specs.declared.station.Station.{Station}
use Rattle.signal_base.specs.declared.station.Station.TheVariants.{Dcf77, Msf, Wwvb, Jjy}
use Rattle.signal_base.specs.Mask.{has_bit}
use Rattle.signal_base.specs.Waveform.{symbol_count}
use Rattle.definitions.specs.codes.Vocabulary.{free, unscored}
use Rattle.definitions.specs.codes.Allowed.{IsSetOf}
use Rattle.definitions.specs.heard.Costs.{set_cost}
use Rattle.definitions.proofs.SetLaws.{IsBit, few, some_symbols}
use Rattle.definitions.proofs.Dut1Laws.{in_free}
use Rattle.definitions.proofs.CostLaws.{lesser_with, least_below, least_below-in, least_below-out}

-- every number of the one is one of the other
abbrev pub IsWithin : ℕ → ℕ → Type 0
IsWithin a b = (x : ℕ) → has_bit a x ≡ true → has_bit b x ≡ true

abbrev bit : ℕ → ℕ → ℕ
bit a x = a / 2 ^ x % 2

-- a bit of the one is at most that of the other
bit_le : (a b x : ℕ) → IsWithin a b → bit a x ≤ bit b x
bit_le a b x within = elim (cases_order (bit a x) 1) [
  | inl one ↦ omega (arith, one, eqb-true (bit b x) 1 (within x (eq-eqb (bit a x) 1 one)))
  | inr apart ↦ elim apart [ inl less ↦ omega (arith, less) | inr more ↦ absurd (omega (arith, more)) ]
]

by_bits : (a : ℕ) → a < 256
    → a ≡ bit a 0 + 2 * bit a 1 + 4 * bit a 2 + 8 * bit a 3 + 16 * bit a 4 + 32 * bit a 5 + 64 * bit a 6 + 128 * bit a 7
by_bits a small = omega arith

-- a set within another is no greater number
pub within_le : (a b : ℕ) → a < 256 → b < 256 → IsWithin a b → a ≤ b
within_le a b small also within =
    omega (
      arith,
      by_bits a small,
      by_bits b also,
      bit_le a b 0 within,
      bit_le a b 1 within,
      bit_le a b 2 within,
      bit_le a b 3 within,
      bit_le a b 4 within,
      bit_le a b 5 within,
      bit_le a b 6 within,
      bit_le a b 7 within,
    )

-- the least of some numbers of a set, by one of them
abbrev pub IsUpTo : ℕ → Option ℕ → Type 0
IsUpTo c None = ⊥
IsUpTo c (Some m) = m ≤ c

up_to_with : (c d : ℕ) (o : Option ℕ) → IsUpTo c o → IsUpTo c (lesser_with o d)
up_to_with c d None never = absurd never
up_to_with c d (Some m) le = omega arith

up_to_itself : (c : ℕ) (o : Option ℕ) → IsUpTo c (lesser_with o c)
up_to_itself c None = omega arith
up_to_itself c (Some m) = omega arith

-- the least of a set is at most the cost of each of its numbers
pub lower : (costs : ℕ → ℕ) (set n x : ℕ) → x < n → has_bit set x ≡ true → IsUpTo (costs x) (least_below costs set n)
lower costs set zero x lt is = absurd (omega arith)
lower costs set (suc n) x lt is =
    subst (λ m. IsUpTo (costs x) (least_below costs set m)) (add-one n) (by_bit (has_bit set n) refl (λ early. lower costs set n x early is))
  where
    by_bit : (b : Bool) → has_bit set n ≡ b → (x < n → IsUpTo (costs x) (least_below costs set n)) → IsUpTo (costs x) (least_below costs set (n + 1))
    by_bit b e before = elim (cases_order x n) [
      | inl same ↦ subst (λ y. has_bit set y ≡ true → IsUpTo (costs y) (least_below costs set (n + 1))) (sym same)
          (λ here. subst (IsUpTo (costs n)) (sym (least_below-in costs set n here)) (up_to_itself (costs n) (least_below costs set n))) is
      | inr apart ↦ elim apart [
        | inl early ↦ (elim b as (λ b. has_bit set n ≡ b → IsUpTo (costs x) (least_below costs set (n + 1))) [
          | true ↦ λ here. subst (IsUpTo (costs x)) (sym (least_below-in costs set n here)) (up_to_with (costs x) (costs n) (least_below costs set n) (before early))
          | false ↦ λ here. subst (IsUpTo (costs x)) (sym (least_below-out costs set n here)) (before early)
        ]) e
        | inr late ↦ absurd (omega (arith, lt))
      ]
    ]

-- a number of a set below n, with its cost
abbrev HasCost : (ℕ → ℕ) → ℕ → ℕ → ℕ → Type 0
HasCost costs set n c = (x : ℕ) × (x < n) × (has_bit set x ≡ true) × (costs x ≡ c)

abbrev IsCost : (ℕ → ℕ) → ℕ → ℕ → Option ℕ → Type 0
IsCost costs set n None = Unit {0}
IsCost costs set n (Some m) = HasCost costs set n m

wider : (costs : ℕ → ℕ) (set n : ℕ) (o : Option ℕ) → IsCost costs set n o → IsCost costs set (n + 1) o
wider costs set n None h = tt
wider costs set n (Some m) h = (h.0, omega (arith, h.1), h.2, h.3)

one_more : (costs : ℕ → ℕ) (set n : ℕ) (o : Option ℕ) → has_bit set n ≡ true → IsCost costs set n o → IsCost costs set (n + 1) (lesser_with o (costs n))
one_more costs set n None here h = (n, omega arith, here, refl)
one_more costs set n (Some m) here h =
    elim (cases_min m (costs n)) [
      | inl e ↦ (h.0, omega (arith, h.1), h.2, h.3 ∙ sym e)
      | inr e ↦ (n, omega arith, here, sym e)
    ]
  where
    cases_min : (a b : ℕ) → (min a b ≡ a) ⊎ (min a b ≡ b)
    cases_min a b = elim (cases_order a b) [
      | inl e ↦ inl (omega arith)
      | inr apart ↦ elim apart [ inl lt ↦ inl (omega arith) | inr gt ↦ inr (omega arith) ]
    ]

-- the least of a set is the cost of one of its numbers
attained : (costs : ℕ → ℕ) (set n : ℕ) → IsCost costs set n (least_below costs set n)
attained costs set zero = tt
attained costs set (suc n) =
    subst (λ m. IsCost costs set m (least_below costs set m)) (add-one n) (by_bit (has_bit set n) refl (attained costs set n))
  where
    by_bit : (b : Bool) → has_bit set n ≡ b → IsCost costs set n (least_below costs set n) → IsCost costs set (n + 1) (least_below costs set (n + 1))
    by_bit true e before = subst (IsCost costs set (n + 1)) (sym (least_below-in costs set n e)) (one_more costs set n (least_below costs set n) e before)
    by_bit false e before = subst (IsCost costs set (n + 1)) (sym (least_below-out costs set n e)) (wider costs set n (least_below costs set n) before)

pub up_to_cost : (costs : ℕ → ℕ) (a b n : ℕ) (o : Option ℕ) → IsWithin a b → IsCost costs a n o → IsUpTo (unwrap_or o 0) o
    → unwrap_or (least_below costs b n) 0 ≤ unwrap_or o 0
up_to_cost costs a b n None within is some = absurd some
up_to_cost costs a b n (Some m) within is some =
    unwrapped (least_below costs b n) (subst (λ c. IsUpTo c (least_below costs b n)) is.3 (lower costs b n is.0 is.1 (within is.0 is.2)))
  where
    unwrapped : (o : Option ℕ) → IsUpTo m o → unwrap_or o 0 ≤ m
    unwrapped None never = absurd never
    unwrapped (Some c) le = le

-- a least that is up to something is one
is_some_up_to : (c : ℕ) (o : Option ℕ) → IsUpTo c o → IsUpTo (unwrap_or o 0) o
is_some_up_to c None never = absurd never
is_some_up_to c (Some m) le = omega arith

bit_cases : (a x : ℕ) → (has_bit a x ≡ true) ⊎ (bit a x ≡ 0)
bit_cases a x = elim (cases_order (bit a x) 1) [
  | inl one ↦ inl (eq-eqb (bit a x) 1 one)
  | inr apart ↦ elim apart [ inl less ↦ inr (omega (arith, less)) | inr more ↦ absurd (omega (arith, more)) ]
]

-- a set of the first n symbols that isn't empty has one of them
HasOne : ℕ → ℕ → Type 0
HasOne set n = (x : ℕ) × (x < n) × (has_bit set x ≡ true)

of_three : (set : ℕ) → 0 < set → set < 8 → HasOne set 3
unfolding HasOne
of_three set some small = elim (bit_cases set 0) [
  | inl e ↦ (0, omega arith, e)
  | inr a ↦ elim (bit_cases set 1) [
    | inl e ↦ (1, omega arith, e)
    | inr b ↦ elim (bit_cases set 2) [ inl e ↦ (2, omega arith, e) | inr c ↦ absurd (omega (arith, some, small, a, b, c)) ]
  ]
]

of_five : (set : ℕ) → 0 < set → set < 32 → HasOne set 5
unfolding HasOne
of_five set some small = elim (bit_cases set 3) [
  | inl e ↦ (3, omega arith, e)
  | inr a ↦ elim (bit_cases set 4) [
    | inl e ↦ (4, omega arith, e)
    | inr b ↦ let one = of_three set some (omega (arith, small, a, b)) in (one.0, omega (arith, one.1), one.2)
  ]
]

has_one : (station : Station) (set : ℕ) → 0 < set → set < 2 ^ symbol_count station → HasOne set (symbol_count station)
has_one Dcf77 set some small = of_three set some small
has_one Msf set some small = of_five set some small
has_one Wwvb set some small = of_three set some small
has_one Jjy set some small = of_three set some small

-- a set of a scored second has one of its station's symbols
pub has_symbol : (station : Station) (set : ℕ) → IsSetOf station set → set ≢ unscored → (x : ℕ) × (x < symbol_count station) × (has_bit set x ≡ true)
unfolding HasOne
has_symbol station set is scored = elim (some_symbols station set is) [
  | inl e ↦ absurd (scored e)
  | inr small ↦ has_one station set small.0 small.1
]

below_unscored : (station : Station) (set : ℕ) → set < 2 ^ symbol_count station → (set == unscored) ≡ false
below_unscored Dcf77 set small = ne_eqb set 255 (λ e. omega (arith, small, e))
below_unscored Msf set small = ne_eqb set 255 (λ e. omega (arith, small, e))
below_unscored Wwvb set small = ne_eqb set 255 (λ e. omega (arith, small, e))
below_unscored Jjy set small = ne_eqb set 255 (λ e. omega (arith, small, e))

-- a set that has all of another costs no more
wider_no_more : (station : Station) (costs : ℕ → ℕ) (a b : ℕ) → (a ≡ 255) ⊎ ((0 < a) × (a < 2 ^ symbol_count station)) → b < 256 → IsWithin a b
    → set_cost station costs b ≤ set_cost station costs a
unfolding HasOne
wider_no_more station costs a b (inl e) small within =
    let le = within_le a b (omega (arith, e)) small within in
    let all : b ≡ 255 = omega (arith, e, le, small) in
    rw (all, e) (omega arith)
wider_no_more station costs a b (inr is) small within = by_set (b == unscored)
  where
    plain : set_cost station costs a ≡ unwrap_or (least_below costs a (symbol_count station)) 0
    plain = ap (λ c. if c then 0 else unwrap_or (least_below costs a (symbol_count station)) 0) (below_unscored station a is.1)

    there : IsUpTo (unwrap_or (least_below costs a (symbol_count station)) 0) (least_below costs a (symbol_count station))
    there =
        let one = has_one station a is.0 is.1 in
        is_some_up_to _ _ (lower costs a (symbol_count station) one.0 one.1 one.2)

    by_set : (c : Bool) → (if c then 0 else unwrap_or (least_below costs b (symbol_count station)) 0) ≤ set_cost station costs a
    by_set true = omega arith
    by_set false =
        omega (
          arith,
          plain,
          up_to_cost costs a b (symbol_count station) (least_below costs a (symbol_count station)) within
              (attained costs a (symbol_count station)) there,
        )

pub wider_costs_no_more : (station : Station) (costs : ℕ → ℕ) (a b : ℕ) → IsSetOf station a → b < 256 → IsWithin a b
    → set_cost station costs b ≤ set_cost station costs a
wider_costs_no_more station costs a b is small within = wider_no_more station costs a b (some_symbols station a is) small within

-- a free set costs no more than either of its symbols
pub free_costs_no_more : (station : Station) (costs : ℕ → ℕ) (x : ℕ) → IsBit x → set_cost station costs free ≤ costs x
unfolding IsBit
free_costs_no_more station costs x lt =
    unwrapped (least_below costs free (symbol_count station)) (lower costs free (symbol_count station) x (few station x lt) (in_free x lt))
  where
    unwrapped : (o : Option ℕ) → IsUpTo (costs x) o → unwrap_or o 0 ≤ costs x
    unwrapped None never = absurd never
    unwrapped (Some c) le = le
