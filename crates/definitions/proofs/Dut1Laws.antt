-- The seconds that tell DUT1 are free, its symbols are 0 and 1, and they tell its values apart.
use Rattle.std.proofs.Common.{◌≡◌, ◌≢◌, ℕ, zero, suc, length, inl, inr, not, sym, ap, ◌∙◌, eqb-true, eq-eqb, slice_index_or, ◌-◌, ◌≤◌, Bool, true, false, ◌||◌, ◌&&◌, ◌==◌, nat_lt, nat_le, if◌then◌else◌, ℤ, pos, negsuc, unsigned_abs, [], ◌∷◌, refl, arith}
use Rattle.std.proofs.lemmas.Bool.{and_parts, or_cases, leb-true, lt-ltb, le-ltb, ne_eqb}
use Rattle.std.proofs.lemmas.Bool.Decides.{nat_tests}
use Rattle.std.specs.List.{Contains}
use Rattle.std.proofs.lemmas.List.{get_or_default}
use Rattle.signal_base.specs.declared.station.Station.{Station}
use Rattle.signal_base.specs.declared.station.Station.TheVariants.{Dcf77, Msf, Wwvb, Jjy}
use Rattle.signal_base.specs.Mask.{has_bit}
use Rattle.definitions.specs.declared.msf.MsfFacts.{MsfFacts}
use Rattle.definitions.specs.declared.wwvb.WwvbFacts.{WwvbFacts}
use Rattle.definitions.specs.codes.Vocabulary.{free, only, no_second, weights_from, is_within}
use Rattle.definitions.specs.codes.Allowed.{allowed, msf_facts, wwvb_facts}
use Rattle.definitions.specs.heard.Dut1.{is_dut1_second, dut1_symbol, dut1_values, wwvb_sign}
use Rattle.definitions.specs.codes.Msf.{code_second, msf_second}
use Rattle.definitions.specs.codes.Wwvb.{wwvb_second}
use Rattle.definitions.proofs.CheckLaws.{all_below, any_below, below, found}
use Rattle.definitions.proofs.SetLaws.{IsBit, either, flag, no_flag, carried}

msf_free : (f : MsfFacts) (s : ℕ) → is_within 1 16 s ≡ true → msf_second f s ≡ free
msf_free f s e = by_length f.long
  where
    from : 1 ≤ s
    from = leb-true 1 s (and_parts (nat_le 1 s) (nat_le s 16) e).0

    to : s ≤ 16
    to = leb-true s 16 (and_parts (nat_le 1 s) (nat_le s 16) e).1

    code : code_second f s ≡ free
    code = rw (ne_eqb s 0 (λ z. omega (arith, from, z)), e) refl

    by_length : (long : Bool)
        → (if nat_lt s (if long then 61 else 60)
        then (if long && (s == 17) then only 0 else if long && nat_lt 17 s then code_second f (s - 1) else code_second f s)
        else no_second)
        ≡ free
    by_length true =
        rw (lt-ltb s 61 (omega (arith, to)), ne_eqb s 17 (λ z. omega (arith, to, z)), le-ltb 17 s (omega (arith, to)), code) refl
    by_length false = rw (lt-ltb s 60 (omega (arith, to)), code) refl

wwvb_free : (f : WwvbFacts) (s : ℕ) → (is_within 36 38 s || is_within 40 43 s) ≡ true → wwvb_second f s ≡ free
wwvb_free f s e = grind (arith, nat_tests)

pub dut1_sets : (station : Station) (announced : Bool) (t s : ℕ) → is_dut1_second station s ≡ true → allowed station announced (t, s) ≡ free
dut1_sets Dcf77 announced t s e = absurd cc
dut1_sets Msf announced t s e = msf_free (msf_facts announced t) s e
dut1_sets Wwvb announced t s e = wwvb_free (wwvb_facts announced t) s e
dut1_sets Jjy announced t s e = absurd cc

pub in_free : (b : ℕ) → IsBit b → has_bit free b ≡ true
unfolding IsBit
in_free zero lt = refl
in_free (suc zero) lt = refl
in_free (suc (suc b)) lt = absurd (omega (arith, lt))

sign : (d : ℤ) (s : ℕ) → IsBit (wwvb_sign d s)
sign (pos n) s = no_flag (s == 37)
sign (negsuc n) s = flag (s == 37)

pub dut1_bit : (station : Station) (d : ℤ) (s : ℕ) → IsBit (dut1_symbol station d s)
dut1_bit Dcf77 d s = flag false
dut1_bit Msf (pos n) s = flag (is_within 1 n s)
dut1_bit Msf (negsuc n) s = flag (is_within 9 _ s)
dut1_bit Wwvb d s =
    either IsBit (is_within 36 38 s) _ _ (sign d s)
    (carried ((weights_from 40 (8 ∷ 4 ∷ 2 ∷ 1 ∷ []), unsigned_abs d) ∷ []) s)
dut1_bit Jjy d s = flag false

pub dut1_symbols : (station : Station) (d : ℤ) (s : ℕ) → has_bit free (dut1_symbol station d s) ≡ true
dut1_symbols station d s = in_free _ (dut1_bit station d s)

-- a second that tells one value from another
tells : Station → ℤ → ℤ → ℕ → Bool
tells station c d s = is_dut1_second station s && not (dut1_symbol station c s == dut1_symbol station d s)

value_at : Station → ℕ → ℤ
value_at station k = slice_index_or (dut1_values station) k (pos 0)

-- of the n values of a station each two are one, or some second tells them apart
each_two : Station → ℕ → Bool
each_two station n = all_below (λ j. all_below (λ k. (j == k) || any_below (tells station (value_at station j) (value_at station k)) 60) n) n

checked : (station : Station) → each_two station (length (dut1_values station)) ≡ true
unfolding each_two all_below any_below tells value_at
checked Dcf77 = refl
checked Msf = refl
checked Wwvb = refl
checked Jjy = refl

value_is : (station : Station) (d : ℤ) (is : Contains (dut1_values station) d) → value_at station is.0 ≡ d
unfolding value_at
value_is station d is = get_or_default (dut1_values station) is.0 (pos 0) d is.1 ∙ is.2

-- the second that was found
second : (station : Station) (c d : ℤ) (is : Contains (dut1_values station) c) (also : Contains (dut1_values station) d)
    → (k : ℕ) × (tells station (value_at station is.0) (value_at station also.0) k ≡ true)
    → (s : ℕ) × (is_dut1_second station s ≡ true) × (dut1_symbol station c s ≢ dut1_symbol station d s)
unfolding tells
second station c d is also f =
    let parts = and_parts (is_dut1_second station f.0) (not (dut1_symbol station (value_at station is.0) f.0 == dut1_symbol station (value_at station also.0) f.0)) f.1 in
    let differ = rw (value_is station c is, value_is station d also) at parts.1 in
    (f.0, parts.0, λ e. let same = eq-eqb (dut1_symbol station c f.0) (dut1_symbol station d f.0) e in cc)

pub dut1_differ : (station : Station) (c d : ℤ) → Contains (dut1_values station) c → Contains (dut1_values station) d → c ≢ d
    → (s : ℕ) × (is_dut1_second station s ≡ true) × (dut1_symbol station c s ≢ dut1_symbol station d s)
unfolding each_two
dut1_differ station c d is also apart =
    let n = length (dut1_values station) in
    let pair = λ (j k : ℕ). (j == k) || any_below (tells station (value_at station j) (value_at station k)) 60 in
    let both = below (pair is.0) n (below (λ j. all_below (pair j) n) n (checked station) is.0 is.1) also.0 also.1 in
    elim (or_cases (is.0 == also.0) (any_below (tells station (value_at station is.0) (value_at station also.0)) 60) both) [
      | inl same ↦ absurd (apart (sym (value_is station c is) ∙ ap (value_at station) (eqb-true is.0 also.0 same) ∙ value_is station d also))
      | inr some ↦ second station c d is also (found (tells station (value_at station is.0) (value_at station also.0)) 60 some)
    ]
