-- A certificate as plain data, and what can be written of it.
use Rattle.std.specs.Prelude.{ℕ, ◌≡◌, ◌≢◌, ◌<◌, ◌≤◌, ◌%◌, ◌^◌, List, length, flat_map, Option, Some, None}
use Rattle.std.specs.List.{AllByRecursion}
use Rattle.signal_base.specs.declared.limits.TheConstants.{GREATEST_COST}
use Rattle.definitions.specs.declared.block.Span.{Span}
use Rattle.definitions.specs.declared.block.Span.TheVariants.{Minute}
use Rattle.definitions.specs.time.Calendar.{century_minutes}
use Rattle.definitions.specs.sequences.Keys.{cost_of, index_end}
use Rattle.definitions.specs.sequences.Windows.{IsWindow}
use Rattle.certificates.specs.declared.certificate.Head.{Head}
use Rattle.certificates.specs.declared.certificate.Kind.{Kind}
use Rattle.certificates.specs.declared.certificate.Kind.TheVariants.{Opened, Pruned, Empty, Leaf}
use Rattle.certificates.specs.declared.certificate.Line.{Line}
use Rattle.certificates.specs.declared.limits.TheConstants.{MOST_PARTS}

-- Of what it is and which keys it names, and the lines of each part. Parts are those of workers, each in its own order.
pub record Certificate : Type 0 where
  pub head : Head
  pub parts : List (List Line)

-- all lines, one part's behind another's
abbrev pub lines_of : Certificate → List Line
lines_of c = flat_map (λ part. part) c.parts

-- there is a bound, and a sequence can cost so much
abbrev pub IsCost : Option ℕ → Type 0
IsCost None = ⊥
IsCost (Some n) = n ≤ GREATEST_COST

-- Which kind goes with which span and bound: a line has no bound exactly where it says that its block has none. A leaf is a
-- minute, and a minute isn't opened.
abbrev pub IsShaped : Kind → Span → Option ℕ → Type 0
IsShaped Opened span bound = (span ≢ Minute) × IsCost bound
IsShaped Pruned span bound = IsCost bound
IsShaped Empty span bound = bound ≡ None
IsShaped Leaf span bound = (span ≡ Minute) × IsCost bound

-- a line that can be written
pub record IsLine (l : Line) : Type 0 where
  pub second : l.block.second ≤ 60
  pub not_empty : l.block.lo < l.block.hi
  pub century : l.block.hi ≤ century_minutes
  pub shape : IsShaped l.kind l.block.span l.bound

-- a key that can be named: that of a sequence that can cost so much; or none
abbrev pub CanBeNamed : Option ℕ → Type 0
CanBeNamed None = Unit {0}
CanBeNamed (Some key) = (key % 2 ^ 33 < index_end) × (cost_of key ≤ GREATEST_COST)

-- a certificate that can be written
pub record IsSpelled (c : Certificate) : Type 0 where
  pub window : IsWindow c.head.window
  pub ceiling : c.head.ceiling ≤ GREATEST_COST
  pub first : CanBeNamed c.head.first
  pub second : CanBeNamed c.head.second
  pub some_part : 1 ≤ length c.parts
  pub few_parts : length c.parts ≤ MOST_PARTS
  pub lines : AllByRecursion IsLine (lines_of c)
