-- A frame's text, pulse by pulse.
use Rattle.std.proofs.Common.{◌≡◌, ℕ, suc, ◌+◌, ◌<◌, ◌≤◌, List, ◌++◌, length, drop, get_or, sym, ap, ◌∙◌, append_assoc, append-nil}
use Rattle.std.proofs.Math.Numerals.{add-one}
use Rattle.std.proofs.Math.Seq.{drop-cons}
use Rattle.std.proofs.lemmas.List.{drop_all}
use Rattle.formats.specs.declared.frame.TheConstants.{ELEMENT_TIME}
use Rattle.formats.specs.Bytes.{letter_h, letter_l}
use Rattle.formats.specs.Frames.{edge, pulses, width}

-- what is written so far, and the pulses of the other elements, are the whole
pub pulse_more : (done whole es : List ℕ) (ms i : ℕ) → i < length es → done ++ pulses ms (drop i es) ≡ whole
    → ((done ++ edge letter_h ms) ++ edge letter_l (ms + width (get_or es i 0))) ++ pulses (ms + ELEMENT_TIME) (drop (i + 1) es) ≡ whole
pulse_more done whole es ms i within so_far =
    let high = edge letter_h ms in
    let low = edge letter_l (ms + width (get_or es i 0)) in
    let rest = pulses (ms + ELEMENT_TIME) (drop (suc i) es) in
    ap (λ n. ((done ++ high) ++ low) ++ pulses (ms + ELEMENT_TIME) (drop n es)) (add-one i)
    ∙ (append_assoc (done ++ high) low rest
    ∙ (append_assoc done high (low ++ rest)
    ∙ (ap (λ l. done ++ pulses ms l) (sym (drop-cons es i 0 within)) ∙ so_far)))

pub pulses_all : (done whole es : List ℕ) (ms i : ℕ) → length es ≤ i → done ++ pulses ms (drop i es) ≡ whole → done ≡ whole
pulses_all done whole es ms i all so_far =
    sym (append-nil done) ∙ (ap (λ l. done ++ pulses ms l) (sym (drop_all i es all)) ∙ so_far)
