-- A clean log tells a DUT1 of 0.
use Rattle.std.proofs.Common.{◌≡◌, ℕ, ◌<◌, inl, inr, Bool, true, false, ◌==◌, ◌&&◌, ◌||◌, not, nat_le, pos, refl, ap, ◌∙◌, arith}
use Rattle.std.proofs.lemmas.Bool.{and_parts, or_cases, eqb-true, leb-true}
use Rattle.signal_base.specs.declared.station.Station.{Station}
use Rattle.signal_base.specs.declared.station.Station.TheVariants.{Dcf77, Msf, Wwvb, Jjy}
use Rattle.definitions.specs.declared.sequence.Sequence.{Sequence}
use Rattle.definitions.specs.codes.Vocabulary.{free}
use Rattle.definitions.specs.heard.Dut1.{dut1_symbol, is_dut1_second}
use Rattle.definitions.specs.sequences.Walks.{place_at}
use Rattle.definitions.proofs.CheckLaws.{all_below, below}
use Rattle.definitions.proofs.Dut1Laws.{dut1_sets}
use Rattle.trial_log.specs.Clean.{clean_symbol, symbol_at}

-- a second doesn't tell DUT1, or it tells 0
abbrev tells_zero : Station → ℕ → Bool
tells_zero station s = not (is_dut1_second station s) || (clean_symbol station s free == dut1_symbol station (pos 0) s)

msf_tells_zero : all_below (tells_zero Msf) 61 ≡ true
unfolding all_below
msf_tells_zero = refl

wwvb_tells_zero : all_below (tells_zero Wwvb) 61 ≡ true
unfolding all_below
wwvb_tells_zero = refl

told : (station : Station) (s : ℕ) → all_below (tells_zero station) 61 ≡ true → s < 61 → is_dut1_second station s ≡ true
    → clean_symbol station s free ≡ dut1_symbol station (pos 0) s
told station s all lt e = elim (or_cases (not (is_dut1_second station s)) _ (below (tells_zero station) 61 all s lt)) [
  | inl silent ↦ absurd (let is : not (is_dut1_second station s) ≡ false = ap not e in cc)
  | inr same ↦ eqb-true _ _ same
]

within_61 : (s last : ℕ) → nat_le s last ≡ true → last < 61 → s < 61
within_61 s last e small = omega (arith, leb-true s last e)

symbol_of_zero : (station : Station) (s : ℕ) → is_dut1_second station s ≡ true → clean_symbol station s free ≡ dut1_symbol station (pos 0) s
symbol_of_zero Dcf77 s e = absurd cc
symbol_of_zero Jjy s e = absurd cc
symbol_of_zero Msf s e = told Msf s msf_tells_zero (within_61 s 16 (and_parts (nat_le 1 s) (nat_le s 16) e).1 (omega arith)) e
symbol_of_zero Wwvb s e = told Wwvb s wwvb_tells_zero small e
  where
    small : s < 61
    small = elim (or_cases (nat_le 36 s && nat_le s 38) (nat_le 40 s && nat_le s 43) e) [
      | inl sign ↦ within_61 s 38 (and_parts (nat_le 36 s) (nat_le s 38) sign).1 (omega arith)
      | inr tenths ↦ within_61 s 43 (and_parts (nat_le 40 s) (nat_le s 43) tenths).1 (omega arith)
    ]

pub tells_dut1_of_zero : (station : Station) (q : Sequence) (k : ℕ) → is_dut1_second station (place_at q k).1 ≡ true
    → symbol_at station q k ≡ dut1_symbol station (pos 0) (place_at q k).1
tells_dut1_of_zero station q k e =
    ap (clean_symbol station (place_at q k).1) (dut1_sets station q.announced (place_at q k).0 (place_at q k).1 e)
    ∙ symbol_of_zero station (place_at q k).1 e
