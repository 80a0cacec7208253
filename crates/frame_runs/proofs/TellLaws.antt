-- What is told of a text of frames that was read.
use Rattle.std.proofs.Common.{◌≡◌, ℕ, ◌<◌, ◌≤◌, List, length, All, Result, Ok, Err, IfOk, sym, ap, subst}
use Rattle.definitions.specs.time.Calendar.{century_minutes}
use Rattle.formats.specs.declared.frame.Frame.{Frame}
use Rattle.formats.specs.declared.frame.TheConstants.{FRAMES_LIMIT, MOST_FRAMES}
use Rattle.formats.specs.FrameTexts.{IsTextOf}
use Rattle.bank_files.specs.Told.{Finds}
use Rattle.bank_files.specs.Seen.{Seen}
use Rattle.due.specs.declared.frame_due.FrameDue.{FrameDue}
use Rattle.due.specs.declared.frame_due.FrameDue.TheVariants.{Read}
use Rattle.due.specs.FrameRules.{Good, IsToldOf}
use Rattle.bank.specs.declared.stop.Stop.{Stop}
use Rattle.bank.specs.Loading.{IsReadAs}

-- what is told of the bytes that were read is told of the file
pub told_of_file : (old : Seen) (file bytes slice : List ℕ) (r : Result FrameDue Stop) → slice ≡ bytes → Finds (old.told file) (λ held. bytes ≡ held)
    → IfOk r (IsToldOf slice) → IfOk r (λ due. IsReadAs old file (λ b. IsToldOf b due))
told_of_file old file bytes slice (Ok due) same found told = (bytes, found, subst (λ (b : List ℕ). IsToldOf b due) same told)
told_of_file old file bytes slice (Err stop) same found told = tt

-- a text of frames tells them
pub frames_told : (text : List ℕ) (frames list : List Frame) → length text ≤ FRAMES_LIMIT → IsTextOf frames text → list ≡ frames → IsToldOf text (Read list)
frames_told text frames list fits is same = Good fits frames is (ap Read same)

-- and they can be listed
pub frames_listed : (text : List ℕ) (frames list : List Frame) → IsTextOf frames text → list ≡ frames
    → (length list ≤ MOST_FRAMES) × All (λ frame. frame.minute < century_minutes) list
frames_listed text frames list is same =
    subst (λ (fs : List Frame). (length fs ≤ MOST_FRAMES) × All (λ frame. frame.minute < century_minutes) fs) (sym same)
    (is.0.most, λ k d h. (is.0.seconds k d h).0)
