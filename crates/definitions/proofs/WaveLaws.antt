-- A waveform shows its symbol.
use Rattle.std.proofs.Common.{◌≡◌, ℕ, zero, suc, ◌<◌, Bool, false, List, if◌then◌else◌, slice_index_or, refl, sym, ap, ◌∙◌, arith}
use Rattle.signal_base.specs.declared.station.Station.{Station}
use Rattle.signal_base.specs.declared.station.Station.TheVariants.{Dcf77, Msf, Wwvb, Jjy}
use Rattle.signal_base.specs.Waveform.{waveform, symbol_count}

low : List Bool → ℕ → Bool
low wave j = slice_index_or wave j false

-- the symbol by its waveform
shown : Station → List Bool → ℕ
shown Dcf77 wave = if low wave 1 then 1 else if low wave 0 then 0 else 2
shown Msf wave =
    if low wave 4 then 4
    else if low wave 1 then (if low wave 2 then 3 else 2)
    else if low wave 2 then 1
    else 0
shown Wwvb wave = if low wave 5 then 2 else if low wave 2 then 1 else 0
shown Jjy wave = if low wave 2 then 2 else if low wave 5 then 1 else 0

shown-waveform : (station : Station) (x : ℕ) → x < symbol_count station → shown station (waveform station x) ≡ x
unfolding shown low
shown-waveform Dcf77 zero lt = refl
shown-waveform Dcf77 (suc zero) lt = refl
shown-waveform Dcf77 (suc (suc zero)) lt = refl
shown-waveform Dcf77 (suc (suc (suc x))) lt = absurd (omega arith)
shown-waveform Msf zero lt = refl
shown-waveform Msf (suc zero) lt = refl
shown-waveform Msf (suc (suc zero)) lt = refl
shown-waveform Msf (suc (suc (suc zero))) lt = refl
shown-waveform Msf (suc (suc (suc (suc zero)))) lt = refl
shown-waveform Msf (suc (suc (suc (suc (suc x))))) lt = absurd (omega arith)
shown-waveform Wwvb zero lt = refl
shown-waveform Wwvb (suc zero) lt = refl
shown-waveform Wwvb (suc (suc zero)) lt = refl
shown-waveform Wwvb (suc (suc (suc x))) lt = absurd (omega arith)
shown-waveform Jjy zero lt = refl
shown-waveform Jjy (suc zero) lt = refl
shown-waveform Jjy (suc (suc zero)) lt = refl
shown-waveform Jjy (suc (suc (suc x))) lt = absurd (omega arith)

pub waveforms_differ : (station : Station) (x y : ℕ) → x < symbol_count station → y < symbol_count station
    → waveform station x ≡ waveform station y → x ≡ y
waveforms_differ station x y lt gt e =
    sym (shown-waveform station x lt) ∙ (ap (shown station) e ∙ shown-waveform station y gt)
