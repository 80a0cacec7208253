-- The first bad lines.
use Rattle.std.proofs.Common.{◌++◌, ℕ, List, [], ◌∷◌, length, get_or, take, codes, inl, inr, refl, ap, arith}
use Rattle.std.specs.Fmt.{digits}
use Rattle.definitions.specs.time.Calendar.{day_at}
use Rattle.definitions.specs.examples.Dates.{at, on}
use Rattle.formats.specs.Bytes.{letter_h, letter_l}
use Rattle.formats.specs.Examples.{frame_at}
use Rattle.formats.specs.FrameTexts.Next.{Fall, NextFrame}
use Rattle.formats.proofs.FrameEdgeLaws.{no_edge, no_edge_end, no_edge_line}
use Rattle.formats.proofs.FrameExampleLaws.{avoids_literal, may_begin, mixed, mixed_begins, mixed_tells_none, nine_is_no_end, one_frame, order-nil, read_one}
use Rattle.formats.proofs.examples.frames.bad_frames.Goals as goal

pub returns-clause-level : goal.returns-clause-level
unfolding digits
returns-clause-level c = record {
  frames = [];
  next = NextFrame;
  rest = codes "0 L" ++ 10 ∷ [];
  read = record { order = order-nil; begins = tt; parts = refl };
  is_due = refl;
  bad = (
    λ over. omega (arith, ap (λ (l : List ℕ). length l) over),
    no_edge_line letter_h (omega arith) (codes "0 L") [] (avoids_literal (codes "0 L") refl)
        (inr (λ e. omega (arith, ap (λ (l : List ℕ). get_or l 2 0) e))),
  );
}

pub returns-clause-zeros : goal.returns-clause-zeros
unfolding digits
returns-clause-zeros c = record {
  frames = [];
  next = NextFrame;
  rest = codes "00 H" ++ 10 ∷ [];
  read = record { order = order-nil; begins = tt; parts = refl };
  is_due = refl;
  bad = (
    λ over. omega (arith, ap (λ (l : List ℕ). length l) over),
    no_edge_line letter_h (omega arith) (codes "00 H") [] (avoids_literal (codes "00 H") refl)
        (inr (λ e. omega (arith, ap (λ (l : List ℕ). length l) e))),
  );
}

pub returns-clause-digits : goal.returns-clause-digits
unfolding digits
returns-clause-digits c = record {
  frames = [];
  next = NextFrame;
  rest = codes "10000000000000 H" ++ 10 ∷ [];
  read = record { order = order-nil; begins = tt; parts = refl };
  is_due = refl;
  bad = (
    λ over. omega (arith, ap (λ (l : List ℕ). length l) over),
    no_edge_line letter_h (omega arith) (codes "10000000000000 H") [] (avoids_literal (codes "10000000000000 H") refl) (inl (omega arith)),
  );
}

pub returns-clause-unended : goal.returns-clause-unended
returns-clause-unended c = record {
  frames = [];
  next = NextFrame;
  rest = codes "0 H";
  read = record { order = order-nil; begins = tt; parts = refl };
  is_due = refl;
  bad = (λ over. omega (arith, ap (λ (l : List ℕ). length l) over), no_edge_end letter_h (omega arith) (codes "0 H") (avoids_literal (codes "0 H") refl));
}

pub returns-clause-missing : goal.returns-clause-missing
unfolding digits
returns-clause-missing c = record {
  frames = [];
  next = Fall 0 [];
  rest = [];
  read = record { order = order-nil; begins = may_begin; parts = refl };
  is_due = refl;
  bad = (λ over. over, λ ms begins. no_edge letter_l ms begins.1.0 begins.1.1);
}

pub returns-clause-shape_first : goal.returns-clause-shape_first
unfolding digits
returns-clause-shape_first c = record {
  frames = [];
  next = Fall 0 [];
  rest = codes "9 H" ++ 10 ∷ [];
  read = record { order = order-nil; begins = may_begin; parts = refl };
  is_due = refl;
  bad = (
    λ over. over,
    no_edge_line letter_l (omega arith) (codes "9 H") [] (avoids_literal (codes "9 H") refl)
        (inr (λ e. omega (arith, ap (λ (l : List ℕ). get_or l 2 0) e))),
  );
}

pub returns-clause-late : goal.returns-clause-late
unfolding digits
returns-clause-late c = record {
  frames = [];
  next = NextFrame;
  rest = codes "2000000000000 H" ++ 10 ∷ [];
  read = record { order = order-nil; begins = tt; parts = refl };
  is_due = refl;
  bad = (2_000_000_000_000, (omega arith, ([], refl)), omega arith, λ timely. omega (arith, timely.0));
}

pub returns-clause-width : goal.returns-clause-width
unfolding digits
returns-clause-width c = λ rest. record {
  frames = [];
  next = Fall 0 [];
  rest = codes "9 L" ++ 10 ∷ rest;
  read = record { order = order-nil; begins = may_begin; parts = refl };
  is_due = refl;
  bad = (9, (omega arith, (rest, refl)), tt, λ timely. nine_is_no_end timely.0 timely.1 timely.2);
}

pub returns-clause-early : goal.returns-clause-early
unfolding digits
returns-clause-early c = record {
  frames = frame_at 0 (at (on 2024 6 10) 6 16) 0 ∷ [];
  next = NextFrame;
  rest = codes "999 H" ++ 10 ∷ [];
  read = read_one (frame_at 0 (at (on 2024 6 10) 6 16) 0) (codes "999 H" ++ 10 ∷ []) one_frame;
  is_due = refl;
  bad = (999, (omega arith, ([], refl)), omega arith, λ timely. omega (arith, timely.1));
}

pub returns-clause-meaning : goal.returns-clause-meaning
unfolding digits day_at
returns-clause-meaning c = record {
  frames = [];
  next = Fall 0 (take 99 mixed);
  rest = codes "998 L" ++ 10 ∷ [];
  read = record { order = order-nil; begins = mixed_begins; parts = refl };
  is_due = refl;
  bad = (998, (omega arith, ([], refl)), tt, (2, omega arith, refl), λ means. mixed_tells_none (means 2 (omega arith) refl refl));
}

pub returns-clause-many : goal.returns-clause-many
unfolding digits
returns-clause-many c = λ frames order many. record {
  frames = frames;
  next = NextFrame;
  rest = codes "1999999999999 H" ++ 10 ∷ [];
  read = record { order = order; begins = tt; parts = refl };
  is_due = omega (arith, many);
  bad = (1_999_999_999_999, (omega arith, ([], refl)), λ room. omega (arith, many, room));
}
