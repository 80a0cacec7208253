-- The line of a step, field by field.
use Rattle.std.proofs.Common.{◌≡◌, ◌≢◌, ℕ, ◌+◌, ◌<◌, ◌≤◌, ◌^◌, List, [], ◌∷◌, ◌++◌, Option, Bool, refl, sym, ap, ◌∙◌, subst, arith}
use Rattle.std.specs.Fmt.{decimal}
use Rattle.definitions.specs.time.Calendar.{century_minutes}
use Rattle.formats.specs.Bytes.{space}
use Rattle.formats.specs.Refusals.{named_key}
use Rattle.formats.proofs.FrameEdgeLaws.{Avoids, split_once}
use Rattle.std.proofs.lemmas.Fmt.{decimal_injective}
use Rattle.definitions.specs.declared.block.Span.{Span}
use Rattle.certificates.specs.declared.certificate.Kind.{Kind}
use Rattle.certificates.specs.declared.certificate.Line.{Line}
use Rattle.certificates.specs.Certificates.{IsLine, IsShaped}
use Rattle.certificates.specs.Texts.{announced_text, kind_text, span_text, step_text}
use Rattle.certificates.proofs.FieldLaws.{announced_avoids, decimal_avoids, kind_avoids, kind_once, span_avoids, span_once}
use Rattle.certificates.proofs.StepLaws.{plain_line}
use Rattle.certificate_texts.specs.Fields.{HasNo}

pub avoids : (c : ℕ) (xs : List ℕ) → HasNo c xs → Avoids c xs
avoids c [] none = tt
avoids c (x ∷ xs) none = (none.0, avoids c xs none.1)

-- a text without a space isn't two fields
pub no_two : (c : ℕ) (xs rest text : List ℕ) → HasNo c text → xs ++ c ∷ rest ≡ text → ⊥
no_two c [] rest text none e = (subst (HasNo c) (sym e) none).0 refl
no_two c (x ∷ xs) rest text none e = no_two c xs rest (xs ++ c ∷ rest) (subst (HasNo c) (sym e) none).1 refl

-- the fields of a line behind the first, the second, and so on
abbrev pub from_hi : Line → List ℕ
from_hi l = decimal l.block.hi ++ space ∷ named_key l.bound

abbrev pub from_lo : Line → List ℕ
from_lo l = decimal l.block.lo ++ space ∷ from_hi l

abbrev pub from_second : Line → List ℕ
from_second l = decimal l.block.second ++ space ∷ from_lo l

abbrev pub from_announced : Line → List ℕ
from_announced l = announced_text l.block.announced ++ space ∷ from_second l

abbrev pub from_span : Line → List ℕ
from_span l = span_text l.block.span ++ space ∷ from_announced l

abbrev pub from_kind : Line → List ℕ
from_kind l = kind_text l.kind ++ space ∷ from_span l

-- a field that stands before the first space is what any text before that space is
pub same_field : (c : ℕ) (front xs rest r text : List ℕ) → HasNo c front → Avoids c xs → text ≡ front ++ c ∷ rest → text ≡ xs ++ c ∷ r → xs ≡ front
same_field c front xs rest r text none clear parts e = (split_once c xs front r rest clear (avoids c front none) (sym e ∙ parts)).0

-- a text without that byte has no such field
pub no_field_there : (c : ℕ) (xs r text : List ℕ) → HasNo c text → text ≢ xs ++ c ∷ r
no_field_there c xs r text none e = no_two c xs r text none (sym e)

low : space < 45
low = omega arith

pub kind_clear : (k : Kind) → Avoids space (kind_text k)
kind_clear k = kind_avoids space low k

pub span_clear : (s : Span) → Avoids space (span_text s)
span_clear s = span_avoids space low s

pub announced_clear : (a : Bool) → Avoids space (announced_text a)
announced_clear a = announced_avoids space low a

pub number_clear : (n : ℕ) → n < 2 ^ 64 → Avoids space (decimal n)
number_clear n small = decimal_avoids space low n small

-- Each field of a line that is spelled by a text is the one that was read, one after the other.
module _ (text : List ℕ) (k : Kind) (t1 : List ℕ) (is_kind : text ≡ kind_text k ++ space ∷ t1) where
  pub kinds : (l : Line) → IsLine l → step_text l ≡ text → (kind_text l.kind ≡ kind_text k) × (from_span l ≡ t1)
  kinds l is e = split_once space (kind_text l.kind) (kind_text k) (from_span l) t1 (kind_clear l.kind) (kind_clear k) (e ∙ is_kind)

  module _ (s : Span) (t2 : List ℕ) (is_span : t1 ≡ span_text s ++ space ∷ t2) where
    pub spans : (l : Line) → IsLine l → step_text l ≡ text → (span_text l.block.span ≡ span_text s) × (from_announced l ≡ t2)
    spans l is e =
        split_once space (span_text l.block.span) (span_text s) (from_announced l) t2 (span_clear l.block.span) (span_clear s) ((kinds l is e).1 ∙ is_span)

    module _ (a : Bool) (t3 : List ℕ) (is_announced : t2 ≡ announced_text a ++ space ∷ t3) where
      pub flags : (l : Line) → IsLine l → step_text l ≡ text → (announced_text l.block.announced ≡ announced_text a) × (from_second l ≡ t3)
      flags l is e =
          split_once space (announced_text l.block.announced) (announced_text a) (from_second l) t3 (announced_clear l.block.announced) (announced_clear a)
          ((spans l is e).1 ∙ is_announced)

      module _ (p : ℕ) (t4 : List ℕ) (small_p : p < 2 ^ 64) (is_second : t3 ≡ decimal p ++ space ∷ t4) where
        pub seconds : (l : Line) → IsLine l → step_text l ≡ text → (decimal l.block.second ≡ decimal p) × (from_lo l ≡ t4)
        seconds l is e =
            split_once space (decimal l.block.second) (decimal p) (from_lo l) t4 (number_clear l.block.second (plain_line l is).second) (number_clear p small_p)
            ((flags l is e).1 ∙ is_second)

        module _ (lo : ℕ) (t5 : List ℕ) (small_lo : lo < 2 ^ 64) (is_lo : t4 ≡ decimal lo ++ space ∷ t5) where
          pub los : (l : Line) → IsLine l → step_text l ≡ text → (decimal l.block.lo ≡ decimal lo) × (from_hi l ≡ t5)
          los l is e =
              split_once space (decimal l.block.lo) (decimal lo) (from_hi l) t5 (number_clear l.block.lo (plain_line l is).lo) (number_clear lo small_lo)
              ((seconds l is e).1 ∙ is_lo)

          lo_is : (l : Line) → IsLine l → step_text l ≡ text → l.block.lo ≡ lo
          lo_is l is e = decimal_injective l.block.lo lo (plain_line l is).lo small_lo (los l is e).0

          -- the ends of other blocks aren't above their first minutes
          pub no_hi : ((n : ℕ) (rest : List ℕ) → lo + 1 ≤ n → n ≤ century_minutes → t5 ≢ decimal n ++ space ∷ rest) → (l : Line) → IsLine l → step_text l ≢ text
          no_hi none l is e =
              none l.block.hi (named_key l.bound) (omega (arith, is.not_empty, lo_is l is e)) is.century (sym (los l is e).1)

          module _ (hi : ℕ) (t6 : List ℕ) (small_hi : hi < 2 ^ 64) (is_hi : t5 ≡ decimal hi ++ space ∷ t6) where
            pub his : (l : Line) → IsLine l → step_text l ≡ text → named_key l.bound ≡ t6
            his l is e =
                (split_once space (decimal l.block.hi) (decimal hi) (named_key l.bound) t6 (number_clear l.block.hi (plain_line l is).hi) (number_clear hi small_hi)
                ((los l is e).1 ∙ is_hi)).1

            pub no_bound : ((bound : Option ℕ) → IsShaped k s bound → named_key bound ≢ t6) → (l : Line) → IsLine l → step_text l ≢ text
            no_bound none l is e =
                none l.bound
                (subst (λ (j : Kind). IsShaped j s l.bound) (kind_once l.kind k (kinds l is e).0)
                (subst (λ (r : Span). IsShaped l.kind r l.bound) (span_once l.block.span s (spans l is e).0) is.shape))
                (his l is e)

            pub spelled : (bound : Option ℕ) → named_key bound ≡ t6
                → step_text (record { kind = k; block = record { announced = a; second = p; span = s; lo = lo; hi = hi }; bound = bound }) ≡ text
            spelled bound e =
                ap (λ (x : List ℕ). kind_text k ++ space ∷ (span_text s ++ space ∷ (announced_text a ++ space ∷ (decimal p ++ space ∷ (decimal lo ++ space ∷ (decimal hi ++ space ∷ x)))))) e
                ∙ (ap (λ (x : List ℕ). kind_text k ++ space ∷ (span_text s ++ space ∷ (announced_text a ++ space ∷ (decimal p ++ space ∷ (decimal lo ++ space ∷ x))))) (sym is_hi)
                ∙ (ap (λ (x : List ℕ). kind_text k ++ space ∷ (span_text s ++ space ∷ (announced_text a ++ space ∷ (decimal p ++ space ∷ x)))) (sym is_lo)
                ∙ (ap (λ (x : List ℕ). kind_text k ++ space ∷ (span_text s ++ space ∷ (announced_text a ++ space ∷ x))) (sym is_second)
                ∙ (ap (λ (x : List ℕ). kind_text k ++ space ∷ (span_text s ++ space ∷ x)) (sym is_announced)
                ∙ (ap (λ (x : List ℕ). kind_text k ++ space ∷ x) (sym is_span) ∙ sym is_kind)))))
