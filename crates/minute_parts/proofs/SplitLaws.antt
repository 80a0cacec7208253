-- Each second of a minute is told by the time of day or by the date.
use Rattle.std.proofs.Common.{◌≡◌, ℕ, ◌+◌, ◌*◌, ◌%◌, ◌<◌, get_or, Bool, true, false, ◌==◌, ◌&&◌, ◌||◌, nat_lt, if◌then◌else◌, map, refl, sym, ap, ◌∙◌, arith}
use Rattle.std.specs.List.{range_with_len}
use Rattle.std.proofs.lemmas.Bool.{lt-ltb, ne_eqb, or_parts}
use Rattle.std.proofs.lemmas.Nat.{pow_pos}
use Rattle.std.proofs.lemmas.List.FromFn.{get_or-map-range_with_len}
use Rattle.signal_base.specs.declared.station.Station.{Station}
use Rattle.signal_base.specs.declared.station.Station.TheVariants.{Dcf77, Msf, Wwvb, Jjy}
use Rattle.definitions.specs.codes.Vocabulary.{is_within, only}
use Rattle.definitions.specs.codes.Dcf77 as dcf
use Rattle.definitions.specs.codes.Msf as msf
use Rattle.definitions.specs.codes.Wwvb as wwvb
use Rattle.definitions.specs.codes.Jjy as jjy
use Rattle.definitions.proofs.SetLaws.{either}
use Rattle.minute_parts.specs.declared.dates.DateFacts.{DateFacts}
use Rattle.minute_parts.specs.Overlay.{is_time_second, overlay, tells_time}
use Rattle.minute_parts.specs.Dates.{date_set, dcf_facts_by, jjy_facts_by, msf_facts_by, set_by, some_date, time_set, wwvb_facts_by}

-- a second by the time of day alone where that tells it, else by the date alone
abbrev told : Station → DateFacts → ℕ → ℕ → ℕ
told station f u s = if tells_time station u s then set_by station some_date u s else set_by station f 0 s

-- so it is in each second of a minute
abbrev AreTold : Station → DateFacts → ℕ → Type 0
AreTold station f u = map (set_by station f u) (range_with_len 0 60) ≡ map (told station f u) (range_with_len 0 60)

jjy_told : (f : DateFacts) (u : ℕ) (call : Bool) → ((u % 60 == 15) || (u % 60 == 45)) ≡ call → AreTold Jjy f u
jjy_told f u true e = rw e refl
jjy_told f u false e = rw e refl

all_told : (station : Station) (f : DateFacts) (u : ℕ) → AreTold station f u
all_told Dcf77 f u = refl
all_told Msf f u = refl
all_told Wwvb f u = refl
all_told Jjy f u = jjy_told f u _ refl

pub is_told : (station : Station) (f : DateFacts) (u s : ℕ) → s < 60 → set_by station f u s ≡ told station f u s
is_told station f u s lt =
    sym (get_or-map-range_with_len (set_by station f u) 0 60 s s 0 lt (omega arith))
    ∙ ap (λ xs. get_or xs s 0) (all_told station f u)
    ∙ get_or-map-range_with_len (told station f u) 0 60 s s 0 lt (omega arith)

-- Each second of a minute of 60 may carry something.
sent_in_minute : (s set : ℕ) → s < 60 → 0 < set → 0 < (if nat_lt s 60 then set else 0)
sent_in_minute s set lt some = rw (lt-ltb s 60 lt) some

one_symbol : (x : ℕ) → 0 < only x
one_symbol x = pow_pos x

abbrev IsSent : ℕ → Type 0
IsSent set = 0 < set

pub sent_code : (station : Station) (f : DateFacts) (u s : ℕ) → s < 60 → 0 < set_by station f u s
sent_code Dcf77 f u s lt =
    sent_in_minute s _ lt
    (either IsSent (s == 59) _ _ (one_symbol dcf.no_reduction)
    (either IsSent (is_within 1 15 s) _ _ (omega arith) (one_symbol (dcf.dcf_bit (dcf_facts_by f u) s))))
sent_code Msf f u s lt =
    let g = msf_facts_by f u in
    sent_in_minute s _ lt
    (either IsSent (s == 0) _ _ (one_symbol msf.minute_marker)
    (either IsSent (is_within 1 16 s) _ _ (omega arith) (one_symbol (2 * msf.bit_a g s + msf.bit_b g s))))
sent_code Wwvb f u s lt =
    sent_in_minute s _ lt
    (either IsSent (wwvb.is_marked s) _ _ (one_symbol wwvb.marker)
    (either IsSent (is_within 36 38 s || is_within 40 43 s) _ _ (omega arith) (one_symbol (wwvb.wwvb_bit (wwvb_facts_by f u) s))))
sent_code Jjy f u s lt =
    let g = jjy_facts_by f u in
    sent_in_minute s _ lt
    (either IsSent (jjy.is_marked g s) _ _ (one_symbol jjy.marker)
    (either IsSent (jjy.is_call_minute g && is_within 40 48 s) _ _ (omega arith)
    (either IsSent (jjy.is_call_minute g && is_within 50 55 s) _ _ (omega arith) (one_symbol (jjy.jjy_bit g s)))))

-- what the time of day always tells, it tells in each minute
always_told : (station : Station) (u s : ℕ) → tells_time station u s ≡ false → is_time_second station s ≡ false
always_told Dcf77 u s e = e
always_told Msf u s e = e
always_told Wwvb u s e = e
always_told Jjy u s e = (or_parts _ _ e).0

-- the two parts laid over one another
overlaid : (tells : Bool) (time date : ℕ) → 0 < time → overlay (if tells then time else 0) date ≡ (if tells then time else date)
overlaid true time date some = let other : (time == 0) ≡ false = ne_eqb _ _ (λ e. absurd (omega (arith, e))) in rw other refl
overlaid false time date some = refl

-- each second carries what the two parts tell of it
pub split : (station : Station) (f : DateFacts) (u s : ℕ) → s < 60 → set_by station f u s ≡ overlay (time_set station u s) (date_set station f s)
split station f u s lt =
    is_told station f u s lt
    ∙ by_teller (tells_time station u s) refl
    ∙ sym (overlaid (tells_time station u s) _ _ (sent_code station some_date u s lt))
  where
    by_teller : (tells : Bool) → tells_time station u s ≡ tells
        → (if tells then set_by station some_date u s else set_by station f 0 s) ≡ (if tells then set_by station some_date u s else date_set station f s)
    by_teller true e = refl
    by_teller false e = rw (always_told station u s e) refl
