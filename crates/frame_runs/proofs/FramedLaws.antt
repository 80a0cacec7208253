-- How the answer for a bank is told, and with which numbers a run doesn't end.
use Rattle.std.proofs.Common.{◌≡◌, ◌<◌, refl, sym, ap, ◌∙◌, subst, arith}
use Rattle.signal_base.specs.declared.window.Window.{Window}
use Rattle.definitions.specs.declared.answer.Answer.{Answer}
use Rattle.definitions.specs.declared.answer.Answer.TheVariants as answers
use Rattle.formats.specs.declared.words.Asked.{Asked}
use Rattle.due.specs.declared.frame_due.FrameDue.{FrameDue}
use Rattle.due.specs.declared.frame_due.FrameDue.TheVariants as frame_dues
use Rattle.due.specs.Banks.{Bank, IsBankAnswer, ordered, start_of, window_of}
use Rattle.due.specs.FrameDues.{frame_status}
use Rattle.due.specs.FrameRules.{IsFramed, framed}
use Rattle.due.proofs.StationLaws.{same_window}
use Rattle.due.proofs.WindowLaws.{phase_in_range}
use Rattle.bank.specs.declared.decoding.Decoded.{Decoded}
use Rattle.bank.specs.Finding.{IsDecoded}
use Rattle.bank.proofs.EndingLaws.{IsNoFailure}
use Rattle.bank.proofs.EntryLaws.{answer_in_order}
use Rattle.bank.proofs.RunLaws.{is_no_failure}

-- the answer for a bank, told as it is due
decoded_framed : (asked : Asked) (bank seen : Bank) (decoded : Decoded) (due : FrameDue) → seen ≡ bank → IsDecoded asked seen decoded
    → due ≡ framed decoded.window seen decoded.answer → IsFramed asked bank due
decoded_framed asked bank seen decoded due same is e =
    subst (λ (b : Bank). IsFramed asked b due) same
    (decoded.answer, subst (λ w. IsBankAnswer w seen decoded.answer) is.window_is is.answer_is, e ∙ ap (λ w. framed w seen decoded.answer) is.window_is)

pub decoded_phase : (asked : Asked) (bank : Bank) (decoded : Decoded) → IsDecoded asked bank decoded → decoded.window.phase < 1000
decoded_phase asked bank decoded is =
    subst (λ (w : Window). w.phase < 1000) (sym is.window_is) (phase_in_range (start_of asked bank.receivers) asked.seconds bank.receivers)

-- what is told of a bank in the order of its stations is told of the bank
same_framed : (window : Window) (bank : Bank) (answer : Answer) → framed window (ordered bank) answer ≡ framed window bank answer
same_framed window bank answers.Nothing = refl
same_framed window bank (answers.Decided cost q next) = refl
same_framed window bank (answers.Undecided cost q r) = refl

framed_in_order : (asked : Asked) (bank : Bank) (due : FrameDue) → IsFramed asked (ordered bank) due → IsFramed asked bank due
framed_in_order asked bank due is = (
  is.0,
  answer_in_order asked bank is.0 is.1,
  is.2 ∙ ap (λ (w : Window). framed w (ordered bank) is.0) (same_window asked bank.receivers) ∙ same_framed (window_of asked bank.receivers) bank is.0,
)

pub decoded_in_order : (asked : Asked) (bank seen : Bank) (decoded : Decoded) (due : FrameDue) → seen ≡ ordered bank → IsDecoded asked seen decoded
    → due ≡ framed decoded.window seen decoded.answer → IsFramed asked bank due
decoded_in_order asked bank seen decoded due same is e = framed_in_order asked bank due (decoded_framed asked (ordered bank) seen decoded due same is e)

-- no due status is one of a failure
pub is_no_frame_failure : (due : FrameDue) → IsNoFailure (frame_status due)
is_no_frame_failure (frame_dues.Told due) = is_no_failure due
is_no_frame_failure (frame_dues.Frames window q) = (λ six. omega (arith, six), λ seven. omega (arith, seven))
is_no_frame_failure (frame_dues.Read frames) = (λ six. omega (arith, six), λ seven. omega (arith, seven))
is_no_frame_failure frame_dues.TooLarge = (λ six. omega (arith, six), λ seven. omega (arith, seven))
is_no_frame_failure (frame_dues.BadLine line fault) = (λ six. omega (arith, six), λ seven. omega (arith, seven))
