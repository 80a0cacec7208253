-- What each line of a certificate says, and when a certificate is valid.
use Rattle.std.specs.Prelude.{ℕ, ◌≡◌, ◌⊎◌, ◌<◌, ◌≤◌, nat_le, min, List, [], ◌∷◌, ◌++◌, filter, flat_map, Option, Some, None}
use Rattle.std.specs.List.{AllByRecursion}
use Rattle.signal_base.specs.declared.window.Window.{Window}
use Rattle.definitions.specs.declared.block.Block.{Block}
use Rattle.definitions.specs.sequences.Keys.{ceiling_key}
use Rattle.definitions.specs.heard.Costs.{Costs}
use Rattle.definitions.specs.answers.Blocks.{IsBound, block_key, children, items}
use Rattle.race_words.specs.declared.ends.Ends.{Ends}
use Rattle.race_words.specs.Keys.{no_key, two_least}
use Rattle.block_visits.specs.Apart.{key_if_any}
use Rattle.certificates.specs.declared.certificate.Kind.{Kind}
use Rattle.certificates.specs.declared.certificate.Kind.TheVariants.{Opened, Pruned, Empty, Leaf}
use Rattle.certificates.specs.declared.certificate.Line.{Line}
use Rattle.certificates.specs.Certificates.{Certificate, IsShaped, IsSpelled, lines_of}

-- a key, and the greatest u64 where there is none
abbrev pub key_or_none : Option ℕ → ℕ
key_or_none None = no_key
key_or_none (Some key) = key

-- what a pruned block's key must be above: the lesser of the named second key and the ceiling's
abbrev pub limit_named : ℕ → Option ℕ → ℕ
limit_named ceiling second = min (key_or_none second) (ceiling_key ceiling)

-- a block's key is above the limit, where it has a bound
abbrev pub IsOver : ℕ → Block → Option ℕ → Type 0
IsOver limit b None = Unit {0}
IsOver limit b (Some n) = limit < block_key n b

-- a block that was pruned is over the limit
abbrev pub IsAbove : ℕ → Kind → Block → Option ℕ → Type 0
IsAbove limit Opened b bound = Unit {0}
IsAbove limit Pruned b bound = IsOver limit b bound
IsAbove limit Empty b bound = Unit {0}
IsAbove limit Leaf b bound = Unit {0}

-- what a line says is so
pub record IsSaid (costs : Costs) (window : Window) (limit : ℕ) (l : Line) : Type 0 where
  pub shape : IsShaped l.kind l.block.span l.bound
  pub bound : IsBound costs window l.block l.bound
  pub above : IsAbove limit l.kind l.block l.bound

-- the blocks whose lines follow: the children of one that was opened
abbrev pub opened_as : Kind → Block → List Block
opened_as Opened b = children b
opened_as Pruned b = []
opened_as Empty b = []
opened_as Leaf b = []

abbrev pub opened_by : Line → List Block
opened_by l = opened_as l.kind l.block

-- The lines are walks of these blocks, one after the other: each block has a line, then come those that it opens, and then
-- those after it. What each line says is so.
abbrev pub AreWalks : Costs → Window → ℕ → List Block → List Line → Type 0
AreWalks costs window limit [] [] = Unit {0}
AreWalks costs window limit [] (l ∷ ls) = ⊥
AreWalks costs window limit (b ∷ bs) [] = ⊥
AreWalks costs window limit (b ∷ bs) (l ∷ ls) =
    (l.block ≡ b) × IsSaid costs window limit l × AreWalks costs window limit (opened_by l ++ bs) ls

-- a block is one of these
abbrev pub IsOneOf : List Block → Block → Type 0
IsOneOf [] b = ⊥
IsOneOf (c ∷ cs) b = (c ≡ b) ⊎ IsOneOf cs b

-- no block stands twice
abbrev pub NoneTwice : List Block → Type 0
NoneTwice [] = Unit {0}
NoneTwice (b ∷ bs) = ¬ (IsOneOf bs b) × NoneTwice bs

-- the blocks are these, each once, in any order
pub record AreEachOnce (these blocks : List Block) : Type 0 where
  pub only : AllByRecursion (IsOneOf these) blocks
  pub all : AllByRecursion (IsOneOf blocks) these
  pub once : NoneTwice blocks

-- the keys of leaves
abbrev pub key_of_bound : Block → Option ℕ → List ℕ
key_of_bound b None = []
key_of_bound b (Some n) = block_key n b ∷ []

abbrev pub leaf_as : Kind → Block → Option ℕ → List ℕ
leaf_as Opened b bound = []
leaf_as Pruned b bound = []
leaf_as Empty b bound = []
leaf_as Leaf b bound = key_of_bound b bound

abbrev pub leaf_key : Line → List ℕ
leaf_key l = leaf_as l.kind l.block l.bound

abbrev pub leaf_keys : List Line → List ℕ
leaf_keys ls = flat_map leaf_key ls

-- the keys that aren't above a limit
abbrev pub up_to : ℕ → List ℕ → List ℕ
up_to limit keys = filter (λ key. nat_le key limit) keys

-- the two least of the leaves' keys that aren't above the ceiling's
abbrev pub leaf_ends : ℕ → List Line → Ends
leaf_ends ceiling ls = two_least (up_to (ceiling_key ceiling) (leaf_keys ls))

-- The lines show that these keys are the first and the second, under a ceiling: they are walks of all items, each once, in any
-- order, under the limit that the second key names; and the keys are the two least of the leaves'.
pub record Show (costs : Costs) (window : Window) (ceiling : ℕ) (first second : Option ℕ) (ls : List Line) : Type 0 where
  pub blocks : List Block
  pub each : AreEachOnce (items window) blocks
  pub walks : AreWalks costs window (limit_named ceiling second) blocks ls
  pub first_is : first ≡ key_if_any (leaf_ends ceiling ls).least
  pub second_is : second ≡ key_if_any (leaf_ends ceiling ls).second

-- a certificate is valid for a window under costs and a ceiling
pub record IsValid (costs : Costs) (window : Window) (ceiling : ℕ) (c : Certificate) : Type 0 where
  pub spelled : IsSpelled c
  pub window_is : c.head.window ≡ window
  pub ceiling_is : c.head.ceiling ≡ ceiling
  pub shows : Show costs window ceiling c.head.first c.head.second (lines_of c)

-- a block that was opened or reached keeps to the limit
abbrev pub KeepsTo : ℕ → Kind → Block → Option ℕ → Type 0
KeepsTo limit kind b None = Unit {0}
KeepsTo limit Opened b (Some n) = block_key n b ≤ limit
KeepsTo limit Pruned b (Some n) = Unit {0}
KeepsTo limit Empty b (Some n) = Unit {0}
KeepsTo limit Leaf b (Some n) = block_key n b ≤ limit

-- each line keeps to the limit, so that no block is opened in vain
abbrev pub AreTight : ℕ → List Line → Type 0
AreTight limit ls = AllByRecursion (λ l. KeepsTo limit l.kind l.block l.bound) ls
