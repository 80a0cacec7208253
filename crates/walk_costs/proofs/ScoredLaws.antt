-- Which sets the date tells: none of a second that isn't scored, outside the seconds that are given up for the call sign.
use Rattle.std.proofs.Common.{◌≡◌, ℕ, zero, suc, ◌+◌, ◌-◌, ◌*◌, ◌^◌, ◌<◌, inl, inr, Bool, false, ◌==◌, ◌&&◌, ◌||◌, nat_lt, if◌then◌else◌, sym, subst, arith}
use Rattle.std.proofs.Math.Nat.{pow-suc}
use Rattle.std.proofs.lemmas.Bool.{and_right, or_parts}
use Rattle.signal_base.specs.declared.station.Station.{Station}
use Rattle.signal_base.specs.declared.station.Station.TheVariants.{Dcf77, Msf, Wwvb, Jjy}
use Rattle.signal_base.specs.Waveform.{symbol_count}
use Rattle.definitions.specs.declared.msf.MsfFacts.{MsfFacts}
use Rattle.definitions.specs.codes.Allowed.{IsSetOf, allowed, dcf_facts, jjy_facts, msf_facts, wwvb_facts}
use Rattle.definitions.specs.codes.Vocabulary.{free, is_within, only, unscored}
use Rattle.definitions.specs.codes.Dcf77 as dcf
use Rattle.definitions.specs.codes.Msf as msf
use Rattle.definitions.specs.codes.Wwvb as wwvb
use Rattle.definitions.specs.codes.Jjy as jjy
use Rattle.definitions.proofs.SetLaws.{either, some_symbols}
use Rattle.minute_parts.specs.Overlay.{is_given_up}

abbrev pub IsScored : ℕ → Type 0
IsScored set = set ≡ unscored → ⊥

one_symbol : (x : ℕ) → IsScored (only x)
one_symbol zero = λ is. absurd (omega (arith, is))
one_symbol (suc x) = λ is. absurd (omega (arith, is, pow-suc 2 x))

nothing : IsScored 0
nothing = λ is. absurd (omega (arith, is))

both_bits : IsScored free
both_bits = λ is. absurd (omega (arith, is))

code_second : (f : MsfFacts) (s : ℕ) → IsScored (msf.code_second f s)
code_second f s =
    either IsScored (s == 0) _ _ (one_symbol msf.minute_marker)
    (either IsScored (is_within 1 16 s) _ _ both_bits (one_symbol (2 * msf.bit_a f s + msf.bit_b f s)))

pub scored : (station : Station) (announced : Bool) (t s : ℕ) → is_given_up station s ≡ false → IsScored (allowed station announced (t, s))
scored Dcf77 announced t s keeps =
    let f = dcf_facts announced t in
    either IsScored (nat_lt s (if f.long then 61 else 60)) _ _
    (either IsScored (s == (if f.long then 60 else 59)) _ _ (one_symbol dcf.no_reduction)
    (either IsScored (is_within 1 15 s) _ _ both_bits (one_symbol (dcf.dcf_bit f s))))
    nothing
scored Msf announced t s keeps =
    let f = msf_facts announced t in
    either IsScored (nat_lt s (if f.long then 61 else 60)) _ _
    (either IsScored (f.long && (s == 17)) _ _ (one_symbol 0)
    (either IsScored (f.long && nat_lt 17 s) _ _ (code_second f (s - 1)) (code_second f s)))
    nothing
scored Wwvb announced t s keeps =
    let f = wwvb_facts announced t in
    either IsScored (nat_lt s (if f.long then 61 else 60)) _ _
    (either IsScored (wwvb.is_marked s) _ _ (one_symbol wwvb.marker)
    (either IsScored (is_within 36 38 s || is_within 40 43 s) _ _ both_bits (one_symbol (wwvb.wwvb_bit f s))))
    nothing
scored Jjy announced t s keeps =
    let f = jjy_facts announced t in
    let call : (jjy.is_call_minute f && is_within 40 48 s) ≡ false = and_right (jjy.is_call_minute f) (is_within 40 48 s) (or_parts (is_within 40 48 s) (is_within 50 55 s) keeps).0 in
    either IsScored (nat_lt s (if f.long then 61 else 60)) _ _
    (either IsScored (jjy.is_marked f s) _ _ (one_symbol jjy.marker)
    (subst
    (λ (b : Bool). IsScored (if b then unscored else if jjy.is_call_minute f && is_within 50 55 s then free else only (jjy.jjy_bit f s)))
    (sym call)
    (either IsScored (jjy.is_call_minute f && is_within 50 55 s) _ _ both_bits (one_symbol (jjy.jjy_bit f s)))))
    nothing

-- such a set stands at its own number in a row of costs
pub small_set : (station : Station) (set : ℕ) → IsSetOf station set → IsScored set → set < 32
small_set station set is some = elim (some_symbols station set is) [ inl e ↦ absurd (some e) | inr sent ↦ below station sent.1 ]
  where
    below : (station : Station) → set < 2 ^ symbol_count station → set < 32
    below Dcf77 lt = omega (arith, lt)
    below Msf lt = omega (arith, lt)
    below Wwvb lt = omega (arith, lt)
    below Jjy lt = omega (arith, lt)
