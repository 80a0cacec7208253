-- The line of a step tells the step.
use Rattle.std.proofs.Common.{◌≡◌, ℕ, ◌<◌, ◌^◌, List, ◌∷◌, ◌++◌, Option, Some, None, arith}
use Rattle.std.specs.Fmt.{decimal}
use Rattle.std.proofs.lemmas.Fmt.{decimal_injective}
use Rattle.definitions.specs.declared.block.Span.{Span}
use Rattle.formats.specs.Bytes.{line_feed, space}
use Rattle.formats.specs.Refusals.{named_key}
use Rattle.formats.proofs.FrameEdgeLaws.{Avoids, split_once}
use Rattle.certificates.specs.declared.certificate.Kind.{Kind}
use Rattle.certificates.specs.declared.certificate.Kind.TheVariants.{Opened, Pruned, Empty, Leaf}
use Rattle.certificates.specs.declared.certificate.Line.{Line}
use Rattle.certificates.specs.Certificates.{IsLine, IsShaped}
use Rattle.certificates.specs.Texts.{announced_text, kind_text, span_text, step_text}
use Rattle.certificates.proofs.FieldLaws.{IsSmall, announced_avoids, announced_once, decimal_avoids, kind_avoids, kind_once, named_avoids, named_once, space_avoids, span_avoids, span_once}

pub shape_small : (k : Kind) (s : Span) (v : Option ℕ) → IsShaped k s v → IsSmall v
shape_small k s None h = tt
shape_small Opened s (Some n) h = omega (arith, h.1)
shape_small Pruned s (Some n) h = omega (arith, h)
shape_small Empty s (Some n) h = absurd cc
shape_small Leaf s (Some n) h = omega (arith, h.1)

-- the fields behind the second, the third, and so on
abbrev from_hi : Line → List ℕ
from_hi l = decimal l.block.hi ++ space ∷ named_key l.bound

abbrev from_lo : Line → List ℕ
from_lo l = decimal l.block.lo ++ space ∷ from_hi l

abbrev from_second : Line → List ℕ
from_second l = decimal l.block.second ++ space ∷ from_lo l

abbrev from_announced : Line → List ℕ
from_announced l = announced_text l.block.announced ++ space ∷ from_second l

abbrev pub from_span : Line → List ℕ
from_span l = span_text l.block.span ++ space ∷ from_announced l

-- a line whose numbers are small enough that their texts tell them
pub record IsPlain (l : Line) : Type 0 where
  pub second : l.block.second < 2 ^ 64
  pub lo : l.block.lo < 2 ^ 64
  pub hi : l.block.hi < 2 ^ 64
  pub bound : IsSmall l.bound

pub plain_line : (l : Line) → IsLine l → IsPlain l
plain_line l is = record {
  second = omega (arith, is.second);
  lo = omega (arith, is.not_empty, is.century);
  hi = omega (arith, is.century);
  bound = shape_small l.kind l.block.span l.bound is.shape;
}

module _ (l : Line) (is_line : IsLine l) where
  pub step_avoids : Avoids line_feed (step_text l)
  step_avoids =
      let is = plain_line l is_line in
      let low : line_feed < 45 = omega arith in
      let lower : line_feed < 32 = omega arith in
      space_avoids line_feed low (kind_text l.kind) (from_span l) lower (kind_avoids line_feed low l.kind)
      (space_avoids line_feed low (span_text l.block.span) (from_announced l) lower (span_avoids line_feed low l.block.span)
      (space_avoids line_feed low (announced_text l.block.announced) (from_second l) lower (announced_avoids line_feed low l.block.announced)
      (space_avoids line_feed low (decimal l.block.second) (from_lo l) lower (decimal_avoids line_feed low l.block.second is.second)
      (space_avoids line_feed low (decimal l.block.lo) (from_hi l) lower (decimal_avoids line_feed low l.block.lo is.lo)
      (space_avoids line_feed low (decimal l.block.hi) (named_key l.bound) lower (decimal_avoids line_feed low l.block.hi is.hi)
      (named_avoids line_feed low l.bound is.bound))))))

by_fields : (l m : Line) → l.kind ≡ m.kind → l.block.span ≡ m.block.span → l.block.announced ≡ m.block.announced → l.block.second ≡ m.block.second
    → l.block.lo ≡ m.block.lo → l.block.hi ≡ m.block.hi → l.bound ≡ m.bound → l ≡ m
by_fields l m k s a p lo hi n = λ i. record {
  kind = k i;
  block = record { announced = a i; second = p i; span = s i; lo = lo i; hi = hi i };
  bound = n i;
}

pub step_tells : (l m : Line) → IsPlain l → IsPlain m → step_text l ≡ step_text m → l ≡ m
step_tells l m is also e =
    let low : space < 45 = omega arith in
    let kinds = split_once space (kind_text l.kind) (kind_text m.kind) (from_span l) (from_span m) (kind_avoids space low l.kind) (kind_avoids space low m.kind) e in
    let spans = split_once space (span_text l.block.span) (span_text m.block.span) (from_announced l) (from_announced m)
    (span_avoids space low l.block.span) (span_avoids space low m.block.span) kinds.1 in
    let announced = split_once space (announced_text l.block.announced) (announced_text m.block.announced) (from_second l) (from_second m)
    (announced_avoids space low l.block.announced) (announced_avoids space low m.block.announced) spans.1 in
    let seconds = split_once space (decimal l.block.second) (decimal m.block.second) (from_lo l) (from_lo m)
    (decimal_avoids space low l.block.second is.second) (decimal_avoids space low m.block.second also.second) announced.1 in
    let firsts = split_once space (decimal l.block.lo) (decimal m.block.lo) (from_hi l) (from_hi m)
    (decimal_avoids space low l.block.lo is.lo) (decimal_avoids space low m.block.lo also.lo) seconds.1 in
    let ends = split_once space (decimal l.block.hi) (decimal m.block.hi) (named_key l.bound) (named_key m.bound)
    (decimal_avoids space low l.block.hi is.hi) (decimal_avoids space low m.block.hi also.hi) firsts.1 in
    by_fields l m (kind_once l.kind m.kind kinds.0) (span_once l.block.span m.block.span spans.0) (announced_once l.block.announced m.block.announced announced.0)
    (decimal_injective l.block.second m.block.second is.second also.second seconds.0)
    (decimal_injective l.block.lo m.block.lo is.lo also.lo firsts.0)
    (decimal_injective l.block.hi m.block.hi is.hi also.hi ends.0)
    (named_once l.bound m.bound is.bound also.bound ends.1)

pub step_once : (l m : Line) → IsLine l → IsLine m → step_text l ≡ step_text m → l ≡ m
step_once l m is also e = step_tells l m (plain_line l is) (plain_line m also) e
