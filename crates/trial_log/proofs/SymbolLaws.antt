-- The least symbol of a set that a second may carry.
use Rattle.std.proofs.Common.{◌≡◌, ℕ, zero, suc, ◌<◌, ◌^◌, inl, inr, refl, sym, subst, arith}
use Rattle.std.specs.Int.{trailing_zeros, w8}
use Rattle.std.specs.Int.Count.{count_trailing_zeros}
use Rattle.signal_base.specs.declared.station.Station.{Station}
use Rattle.signal_base.specs.declared.station.Station.TheVariants.{Dcf77, Msf, Wwvb, Jjy}
use Rattle.signal_base.specs.Waveform.{symbol_count}
use Rattle.definitions.specs.codes.Allowed.{IsSetOf}
use Rattle.trial_log.specs.Clean.{least_symbol}

-- the set's least symbol is the place of its lowest bit, and one of the station's
pub record IsLeast (station : Station) (set : ℕ) : Type 0 where
  pub place : trailing_zeros w8 set ≡ least_symbol set
  pub known : least_symbol set < symbol_count station

few_symbols : (station : Station) → symbol_count station < 6
few_symbols Dcf77 = omega arith
few_symbols Msf = omega arith
few_symbols Wwvb = omega arith
few_symbols Jjy = omega arith

some_symbols : (station : Station) → 0 < symbol_count station
some_symbols Dcf77 = omega arith
some_symbols Msf = omega arith
some_symbols Wwvb = omega arith
some_symbols Jjy = omega arith

of_one : (station : Station) (x : ℕ) → x < symbol_count station → x < 5 → IsLeast station (2 ^ x)
unfolding count_trailing_zeros
of_one station zero known small = record { place = refl; known = known }
of_one station (suc zero) known small = record { place = refl; known = known }
of_one station (suc (suc zero)) known small = record { place = refl; known = known }
of_one station (suc (suc (suc zero))) known small = record { place = refl; known = known }
of_one station (suc (suc (suc (suc zero)))) known small = record { place = refl; known = known }
of_one station (suc (suc (suc (suc (suc x))))) known small = absurd (omega arith)

pub least : (station : Station) (set : ℕ) → IsSetOf station set → IsLeast station set
unfolding count_trailing_zeros
least station set (inl e) = subst (IsLeast station) (sym e) (record { place = refl; known = some_symbols station })
least station set (inr (inl e)) = subst (IsLeast station) (sym e) (record { place = refl; known = some_symbols station })
least station set (inr (inr (x, known, e))) = subst (IsLeast station) (sym e) (of_one station x known (omega (arith, few_symbols station)))
