-- Each second that a minute has may carry something.
use Rattle.std.proofs.Common.{ℕ, ◌^◌, ◌+◌, ◌*◌, ◌/◌, ◌%◌, ◌-◌, ◌<◌, ◌≤◌, ◌≡◌, ◌⊎◌, inl, inr, Bool, true, false, ◌&&◌, ◌||◌, ◌==◌, nat_lt, if◌then◌else◌, List, [], ◌∷◌, Option, Some, None, refl, sym, ap, subst, arith}
use Rattle.std.specs.Option.{option_map_or}
use Rattle.std.proofs.lemmas.Bool.{lt-ltb, le-ltb}
use Rattle.std.proofs.lemmas.Nat.{pow_pos, pow_below}
use Rattle.signal_base.specs.declared.station.Station.{Station}
use Rattle.signal_base.specs.declared.station.Station.TheVariants.{Dcf77, Msf, Wwvb, Jjy}
use Rattle.definitions.specs.declared.dcf77.DcfFacts.{DcfFacts}
use Rattle.definitions.specs.declared.msf.MsfFacts.{MsfFacts}
use Rattle.definitions.specs.declared.wwvb.WwvbFacts.{WwvbFacts}
use Rattle.definitions.specs.declared.jjy.JjyFacts.{JjyFacts}
use Rattle.signal_base.specs.Waveform.{symbol_count}
use Rattle.definitions.specs.codes.Vocabulary.{only, free, unscored, no_second, Field, digit_bit, weight_of, carried_bit, ones, is_within}
use Rattle.definitions.specs.time.Calendar.{minute_length, minutes_per_day}
use Rattle.definitions.specs.time.Summer.{season_at, us_begins, us_ends, us_code}
use Rattle.definitions.specs.codes.Allowed.{IsSetOf, allowed, dcf_facts, msf_facts, wwvb_facts, jjy_facts}
use Rattle.definitions.specs.codes.Dcf77 as dcf
use Rattle.definitions.specs.codes.Msf as msf
use Rattle.definitions.specs.codes.MarkedCode as marked
use Rattle.definitions.specs.codes.Wwvb as wwvb
use Rattle.definitions.specs.codes.Jjy as jjy

-- what holds of both holds of either
pub either : (P : ℕ → Type 0) (c : Bool) (a b : ℕ) → P a → P b → P (if c then a else b)
either P true a b p q = p
either P false a b p q = q

-- a number that is a bit
unfoldable pub IsBit : ℕ → Type 0
IsBit n = n < 2

mod_bit : (n : ℕ) → IsBit (n % 2)
unfolding IsBit
mod_bit n = omega arith

pub flag : (c : Bool) → IsBit (if c then 1 else 0)
unfolding IsBit
flag true = omega arith
flag false = omega arith

pub no_flag : (c : Bool) → IsBit (if c then 0 else 1)
unfolding IsBit
no_flag true = omega arith
no_flag false = omega arith

digit : (value weight : ℕ) → IsBit (digit_bit value weight)
digit value weight =
    either IsBit (nat_lt weight 10) _ _ (mod_bit (value % 10 / weight))
    (either IsBit (nat_lt weight 100) _ _ (mod_bit (value / 10 % 10 / (weight / 10))) (mod_bit (value / 100 % 10 / (weight / 100))))

mapped : (g : ℕ → ℕ) (o : Option ℕ) (d : ℕ) → ((w : ℕ) → IsBit (g w)) → IsBit d → IsBit (option_map_or g o d)
mapped g None d p q = q
mapped g (Some w) d p q = p w

pub carried : (fields : List Field) (s : ℕ) → IsBit (carried_bit fields s)
unfolding IsBit
carried [] s = omega arith
carried (f ∷ fs) s = mapped (digit_bit f.1) (weight_of f.0 s) (carried_bit fs s) (digit f.1) (carried fs s)

-- the set of one symbol, and of one bit, of two, and the free set
one_set : (station : Station) (x : ℕ) → x < symbol_count station → IsSetOf station (only x)
one_set station x lt = inr (inr (x, lt, refl))

pub few : (station : Station) (b : ℕ) → IsBit b → b < symbol_count station
unfolding IsBit
few Dcf77 b lt = omega (arith, lt)
few Msf b lt = omega (arith, lt)
few Wwvb b lt = omega (arith, lt)
few Jjy b lt = omega (arith, lt)

bit_set : (station : Station) (b : ℕ) → IsBit b → IsSetOf station (only b)
bit_set station b lt = one_set station b (few station b lt)

pair_set : (a b : ℕ) → IsBit a → IsBit b → IsSetOf Msf (only (2 * a + b))
unfolding IsBit
pair_set a b lt gt = one_set Msf (2 * a + b) (omega (arith, lt, gt))

free_set : (station : Station) → IsSetOf station free
free_set station = inr (inl refl)

-- a second that the minute has
in_minute : (station : Station) (s n set : ℕ) → s < n → IsSetOf station set → IsSetOf station (if nat_lt s n then set else no_second)
in_minute station s n set lt p = subst (λ c. IsSetOf station (if c then set else no_second)) (sym (lt-ltb s n lt)) p

pub dcf_bit : (f : DcfFacts) (s : ℕ) → IsBit (dcf.dcf_bit f s)
dcf_bit f s =
    either IsBit (s == 16) _ _ (flag f.change)
    (either IsBit (s == 17) _ _ (flag f.summer)
    (either IsBit (s == 18) _ _ (no_flag f.summer)
    (either IsBit (s == 19) _ _ (flag f.leap)
    (either IsBit (s == 20) _ _ (flag true)
    (either IsBit (s == 28) _ _ (mod_bit (ones dcf.minute_weights f.minute))
    (either IsBit (s == 35) _ _ (mod_bit (ones dcf.hour_weights f.hour))
    (either IsBit (s == 58) _ _ (mod_bit (dcf.date_ones f))
    (carried (dcf.dcf_fields f) s))))))))

dcf_set : (f : DcfFacts) (s : ℕ) → s < (if f.long then 61 else 60) → IsSetOf Dcf77 (dcf.dcf_second f s)
dcf_set f s lt =
    in_minute Dcf77 s (if f.long then 61 else 60) _ lt
    (either (IsSetOf Dcf77) (s == (if f.long then 60 else 59)) _ _ (one_set Dcf77 dcf.no_reduction (omega arith))
    (either (IsSetOf Dcf77) (is_within 1 15 s) _ _ (free_set Dcf77) (bit_set Dcf77 (dcf.dcf_bit f s) (dcf_bit f s))))

pub bit_a : (f : MsfFacts) (s : ℕ) → IsBit (msf.bit_a f s)
bit_a f s = either IsBit (is_within 53 58 s) _ _ (flag true) (carried (msf.msf_fields f) s)

pub bit_b : (f : MsfFacts) (s : ℕ) → IsBit (msf.bit_b f s)
bit_b f s =
    either IsBit (s == 53) _ _ (flag f.change)
    (either IsBit (s == 54) _ _ (mod_bit (ones msf.year_weights f.year + 1))
    (either IsBit (s == 55) _ _ (mod_bit (ones msf.month_weights f.month + ones msf.day_weights f.day + 1))
    (either IsBit (s == 56) _ _ (mod_bit (ones msf.weekday_weights f.weekday + 1))
    (either IsBit (s == 57) _ _ (mod_bit (ones msf.hour_weights f.hour + ones msf.minute_weights f.minute + 1))
    (either IsBit (s == 58) _ _ (flag f.summer) (flag false))))))

code_set : (f : MsfFacts) (s : ℕ) → IsSetOf Msf (msf.code_second f s)
code_set f s =
    either (IsSetOf Msf) (s == 0) _ _ (one_set Msf msf.minute_marker (omega arith))
    (either (IsSetOf Msf) (is_within 1 16 s) _ _ (free_set Msf)
    (pair_set (msf.bit_a f s) (msf.bit_b f s) (bit_a f s) (bit_b f s)))

msf_set : (f : MsfFacts) (s : ℕ) → s < (if f.long then 61 else 60) → IsSetOf Msf (msf.msf_second f s)
msf_set f s lt =
    in_minute Msf s (if f.long then 61 else 60) _ lt
    (either (IsSetOf Msf) (f.long && (s == 17)) _ _ (one_set Msf 0 (omega arith))
    (either (IsSetOf Msf) (f.long && nat_lt 17 s) _ _ (code_set f (s - 1)) (code_set f s)))

half : (n : ℕ) → n < 4 → IsBit (n / 2)
unfolding IsBit
half n lt = omega arith

wwvb_bit : (f : WwvbFacts) (s : ℕ) → f.us_code < 4 → IsBit (wwvb.wwvb_bit f s)
wwvb_bit f s lt =
    either IsBit (s == 55) _ _ (flag _)
    (either IsBit (s == 56) _ _ (flag f.leap)
    (either IsBit (s == 57) _ _ (half f.us_code lt)
    (either IsBit (s == 58) _ _ (mod_bit f.us_code) (carried (wwvb.wwvb_fields f) s))))

wwvb_set : (f : WwvbFacts) (s : ℕ) → f.us_code < 4 → s < (if f.long then 61 else 60) → IsSetOf Wwvb (wwvb.wwvb_second f s)
wwvb_set f s code lt =
    in_minute Wwvb s (if f.long then 61 else 60) _ lt
    (either (IsSetOf Wwvb) (wwvb.is_marked s) _ _ (one_set Wwvb marked.marker (omega arith))
    (either (IsSetOf Wwvb) (is_within 36 38 s || is_within 40 43 s) _ _ (free_set Wwvb)
    (bit_set Wwvb (wwvb.wwvb_bit f s) (wwvb_bit f s code))))

pub jjy_bit : (f : JjyFacts) (s : ℕ) → IsBit (jjy.jjy_bit f s)
jjy_bit f s =
    either IsBit (s == 36) _ _ (mod_bit (ones marked.hour_weights f.hour))
    (either IsBit (s == 37) _ _ (mod_bit (ones marked.minute_weights f.minute))
    (either IsBit (is_within 53 54 s) _ _ (flag f.leap) (carried (jjy.jjy_fields f) s)))

jjy_set : (f : JjyFacts) (s : ℕ) → s < (if f.long then 61 else 60) → IsSetOf Jjy (jjy.jjy_second f s)
jjy_set f s lt =
    in_minute Jjy s (if f.long then 61 else 60) _ lt
    (either (IsSetOf Jjy) (jjy.is_marked f s) _ _ (one_set Jjy marked.marker (omega arith))
    (either (IsSetOf Jjy) (jjy.is_call_minute f && is_within 40 48 s) _ _ (inl refl)
    (either (IsSetOf Jjy) (jjy.is_call_minute f && is_within 50 55 s) _ _ (free_set Jjy)
    (bit_set Jjy (jjy.jjy_bit f s) (jjy_bit f s)))))

-- a set of some symbols is a number below the sets of all
pub some_symbols : (station : Station) (set : ℕ) → IsSetOf station set → (set ≡ unscored) ⊎ ((0 < set) × (set < 2 ^ symbol_count station))
some_symbols station set (inl e) = inl e
some_symbols Dcf77 set (inr (inl e)) = inr (omega (arith, e), omega (arith, e))
some_symbols Msf set (inr (inl e)) = inr (omega (arith, e), omega (arith, e))
some_symbols Wwvb set (inr (inl e)) = inr (omega (arith, e), omega (arith, e))
some_symbols Jjy set (inr (inl e)) = inr (omega (arith, e), omega (arith, e))
some_symbols station set (inr (inr one)) =
    inr (omega (arith, one.2, pow_pos one.0), omega (arith, one.2, pow_below one.0 (symbol_count station) one.1))

code_small : (t : ℕ) → us_code t < 4
code_small t =
    let s = season_at us_begins us_ends (t / minutes_per_day) in
    either (λ n. n < 4) (us_begins s.0) _ _ (omega arith)
    (either (λ n. n < 4) (us_ends s.0) _ _ (omega arith)
    (either (λ n. n < 4) s.1 _ _ (omega arith) (omega arith)))

-- each second of a minute may carry something
pub sent : (station : Station) (announced : Bool) (t s : ℕ) → s < minute_length announced t → IsSetOf station (allowed station announced (t, s))
sent Dcf77 announced t s lt = dcf_set (dcf_facts announced t) s lt
sent Msf announced t s lt = msf_set (msf_facts announced t) s lt
sent Wwvb announced t s lt = wwvb_set (wwvb_facts announced t) s (code_small t) lt
sent Jjy announced t s lt = jjy_set (jjy_facts announced t) s lt

past : (s n set : ℕ) → n ≤ s → (if nat_lt s n then set else no_second) ≡ no_second
past s n set le = ap (λ c. if c then set else no_second) (le-ltb s n le)

-- and none comes after them
pub ends : (station : Station) (announced : Bool) (t s : ℕ) → minute_length announced t ≤ s → allowed station announced (t, s) ≡ no_second
ends Dcf77 announced t s le = past s (minute_length announced t) _ le
ends Msf announced t s le = past s (minute_length announced t) _ le
ends Wwvb announced t s le = past s (minute_length announced t) _ le
ends Jjy announced t s le = past s (minute_length announced t) _ le
