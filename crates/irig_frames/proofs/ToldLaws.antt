-- What elements tell is the second whose elements they are, if they are those of one.
use Rattle.std.proofs.Common.{◌≡◌, ◌<◌, ℕ, ◌≤◌, Bool, true, false, not, ◌&&◌, if◌then◌else◌, List, refl, sym, ap, ◌∙◌, arith}
use Rattle.std.specs.Str.{bytes_eq}
use Rattle.std.proofs.lemmas.Bool.{false≢true}
use Rattle.std.proofs.lemmas.Slice.Eq.{bytes_eq-Decides}
use Rattle.definitions.specs.time.Calendar.{century_minutes, is_leap_end, minute_length}
use Rattle.formats.specs.Frames.{elements, told_minute, told_second}
use Rattle.formats.specs.FrameTexts.{IsSecond, TellASecond}
use Rattle.formats.proofs.FrameTellLaws.{minute_is_told, second_is_told}

pub this_minute : (told : List ℕ) (h : TellASecond told) → told_minute told ≡ h.0
this_minute told h = sym (ap told_minute h.3) ∙ minute_is_told h.0 h.1 h.2

pub this_second : (told : List ℕ) (h : TellASecond told) → told_second told ≡ h.1
this_second told h = sym (ap told_second h.3) ∙ second_is_told h.0 h.1 h.2

-- the minute isn't one of the century, or the second isn't one of the minute, or its elements are others
pub no_minute : (told : List ℕ) → century_minutes ≤ told_minute told → TellASecond told → ⊥
no_minute told late h = omega (arith, late, this_minute told h, h.2.0)

pub no_second : (told : List ℕ) → minute_length true (told_minute told) ≤ told_second told → TellASecond told → ⊥
no_second told late h =
    let length : minute_length true (told_minute told) ≡ minute_length true h.0 = ap (minute_length true) (this_minute told h) in
    omega (arith, late, length, this_second told h, h.2.1)

pub other_elements : (told : List ℕ) → (elements (told_minute told) (told_second told) ≡ told → ⊥) → TellASecond told → ⊥
other_elements told differ h =
    differ (ap (λ t. elements t (told_second told)) (this_minute told h) ∙ (ap (elements h.0) (this_second told h) ∙ h.3))

-- a comparison of bytes
pub are_same : (xs ys : List ℕ) → false ≡ not (bytes_eq xs ys) → xs ≡ ys
are_same xs ys e = go (bytes_eq xs ys) refl e
  where
    go : (b : Bool) → bytes_eq xs ys ≡ b → false ≡ not b → xs ≡ ys
    go true is e = (bytes_eq-Decides xs ys).0 is
    go false is e = absurd (false≢true e)

pub are_others : (xs ys : List ℕ) → true ≡ not (bytes_eq xs ys) → xs ≡ ys → ⊥
are_others xs ys e same = false≢true (sym (e ∙ ap not ((bytes_eq-Decides xs ys).1 same)))

-- the seconds below 60 are seconds of each minute
pub first_sixty : (t s : ℕ) → t < century_minutes → s < 60 → IsSecond t s
first_sixty t s early lt = (early, go (is_leap_end t))
  where
    go : (b : Bool) → s < (if true && b then 61 else 60)
    go true = omega (arith, lt)
    go false = lt
