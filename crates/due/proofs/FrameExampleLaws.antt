-- What the examples of frames rest on: the words that ask what frames tell, and two texts.
use Rattle.std.proofs.Common.{◌≡◌, ℕ, ◌++◌, List, [], ◌∷◌, codes, get_or, length, inr, refl, ap, arith}
use Rattle.std.specs.Fmt.{digits}
use Rattle.formats.specs.declared.frame.FrameLineFault.TheVariants.{Shape}
use Rattle.formats.specs.Bytes.{letter_h, line}
use Rattle.formats.specs.FrameTexts.{IsRefused, IsTextOf}
use Rattle.formats.specs.FrameTexts.Next.{NextFrame}
use Rattle.formats.specs.WordExamples.{words_in}
use Rattle.formats.specs.WordValues.{number_of}
use Rattle.formats.proofs.FrameEdgeLaws.{no_edge_line}
use Rattle.formats.proofs.FrameExampleLaws.{avoids_literal, order-nil}
use Rattle.due.specs.FrameOrders.{AsksReading}
use Rattle.due.specs.FrameRules.{IsFrameRead, Reads_bank, Reads_frames}
use Rattle.due.specs.Inputs.{Contents, FramesText}
use Rattle.due.proofs.FrameFileLaws.{one_file, one_question}

pub reading_asks : AsksReading (words_in (codes "irig-read f.txt")) (codes "f.txt")
unfolding digits number_of
reading_asks = refl

-- a frame begins with a rise
pub falls_first : IsRefused (line (codes "0 L")) 1 Shape
unfolding digits
falls_first = record {
  frames = [];
  next = NextFrame;
  rest = codes "0 L" ++ 10 ∷ [];
  read = record { order = order-nil; begins = tt; parts = refl };
  is_due = refl;
  bad = (
    λ over. omega (arith, ap (λ (l : List ℕ). length l) over),
    no_edge_line letter_h (omega arith) (codes "0 L") [] (avoids_literal (codes "0 L") refl)
        (inr (λ e. omega (arith, ap (λ (l : List ℕ). get_or l 2 0) e))),
  );
}

pub no_frame : IsTextOf [] []
no_frame = (order-nil, refl)

other_file : codes "g.txt" ≡ codes "f.txt" → ⊥
other_file e = omega (arith, ap (λ (l : List ℕ). get_or l 0 0) e)

-- another file isn't read
pub not_read : (contents : Contents) → IsFrameRead (words_in (codes "irig-read f.txt")) contents FramesText (codes "g.txt") → ⊥
not_read contents (Reads_bank config asked asks read) = one_question (words_in (codes "irig-read f.txt")) config (codes "f.txt") asked asks reading_asks
not_read contents (Reads_frames asks is) = other_file (one_file (words_in (codes "irig-read f.txt")) (codes "g.txt") (codes "f.txt") asks reading_asks)
