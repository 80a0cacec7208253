-- What is found of a certificate, line by line.
use Rattle.std.specs.Prelude.{ℕ, ◌≡◌, ◌≢◌, ◌+◌, ◌⊎◌, List, [], ◌∷◌, ◌++◌, drop, Option}
use Rattle.std.specs.List.{AllByRecursion}
use Rattle.signal_base.specs.declared.window.Window.{Window}
use Rattle.definitions.specs.declared.block.Block.{Block}
use Rattle.definitions.specs.heard.Costs.{Costs}
use Rattle.definitions.specs.answers.Blocks.{IsBound, items}
use Rattle.block_visits.specs.Apart.{key_if_any}
use Rattle.certificates.specs.declared.certificate.Line.{Line}
use Rattle.certificates.specs.declared.verdict.Verdict.{Verdict}
use Rattle.certificates.specs.declared.verdict.Verdict.TheVariants.{Certified, OtherWindow, Uncovered, WrongBound, NotAbove, WrongEnds}
use Rattle.certificates.specs.Certificates.{Certificate, lines_of}
use Rattle.certificates.specs.Validity.{IsAbove, IsOneOf, IsSaid, leaf_ends, limit_named, opened_by}

-- A line's block is due: the next child of the nearest opened block that has one left; or, where none has, any item that no
-- earlier line began.
abbrev pub IsDue : Window → List Block → List Block → Block → Type 0
IsDue window [] begun block = IsOneOf (items window) block × ¬ (IsOneOf begun block)
IsDue window (b ∷ due) begun block = block ≡ b

-- the items that were begun, once a line has this block
abbrev pub begun_with : List Block → List Block → Block → List Block
begun_with [] begun block = block ∷ begun
begun_with (b ∷ due) begun block = begun

-- what is due after a line
abbrev pub due_after : List Block → Line → List Block
due_after due l = opened_by l ++ drop 1 due

-- no child is due, and each item was begun
abbrev pub AreOver : Window → List Block → List Block → Type 0
AreOver window due begun = (due ≡ []) × AllByRecursion (IsOneOf begun) (items window)

-- The lines are good where these blocks are due and these items were begun: each line's block is due, and what it says is so.
-- At the end all is over.
abbrev pub AreGood : Costs → Window → ℕ → List Block → List Block → List Line → Type 0
AreGood costs window limit due begun [] = AreOver window due begun
AreGood costs window limit due begun (l ∷ ls) =
    IsDue window due begun l.block × IsSaid costs window limit l
    × AreGood costs window limit (due_after due l) (begun_with due begun l.block) ls

-- A line is wrong at a step, in this way, which is the first of these: its block isn't due; its bound isn't the block's; it
-- passes over a block whose key isn't above the limit.
abbrev pub IsWrong : Costs → Window → ℕ → ℕ → List Block → List Block → Line → Verdict → Type 0
IsWrong costs window limit step due begun l verdict =
    (¬ (IsDue window due begun l.block) × (verdict ≡ Uncovered step))
    ⊎ (IsDue window due begun l.block × ¬ (IsBound costs window l.block l.bound) × (verdict ≡ WrongBound step))
    ⊎ (IsDue window due begun l.block × IsBound costs window l.block l.bound × ¬ (IsAbove limit l.kind l.block l.bound)
    × (verdict ≡ NotAbove step))

-- a line isn't wrong
pub record IsRight (costs : Costs) (window : Window) (limit : ℕ) (due begun : List Block) (l : Line) : Type 0 where
  pub due_is : IsDue window due begun l.block
  pub bound : IsBound costs window l.block l.bound
  pub above : IsAbove limit l.kind l.block l.bound

-- what is found of the named keys, where these are the true ones
abbrev pub IsOfEnds : Option ℕ → Option ℕ → Option ℕ → Option ℕ → Verdict → Type 0
IsOfEnds first second true_first true_second verdict =
    ((first ≢ true_first) × (verdict ≡ WrongEnds true_first))
    ⊎ ((first ≡ true_first) × (second ≢ true_second) × (verdict ≡ WrongEnds true_second))
    ⊎ ((first ≡ true_first) × (second ≡ true_second) × (verdict ≡ Certified))

-- What is found of lines from this step on, where these blocks are due and these items were begun. `ends` tells what is found of
-- the named keys.
abbrev pub IsFound : Costs → Window → ℕ → (Verdict → Type 0) → ℕ → List Block → List Block → List Line → Verdict → Type 0
IsFound costs window limit ends step due begun [] verdict =
    (AreOver window due begun × ends verdict) ⊎ (¬ (AreOver window due begun) × (verdict ≡ Uncovered step))
IsFound costs window limit ends step due begun (l ∷ ls) verdict =
    IsWrong costs window limit step due begun l verdict
    ⊎ (IsRight costs window limit due begun l
    × IsFound costs window limit ends (step + 1) (due_after due l) (begun_with due begun l.block) ls verdict)

-- what is found of lines that name these keys
abbrev pub IsFoundOf : Costs → Window → ℕ → Option ℕ → Option ℕ → List Line → Verdict → Type 0
IsFoundOf costs window ceiling first second ls =
    IsFound costs window (limit_named ceiling second)
    (IsOfEnds first second (key_if_any (leaf_ends ceiling ls).least) (key_if_any (leaf_ends ceiling ls).second)) 1 [] [] ls

-- the certificate is of this window and under this ceiling
abbrev pub IsOf : Window → ℕ → Certificate → Type 0
IsOf window ceiling c = (c.head.window ≡ window) × (c.head.ceiling ≡ ceiling)

-- what is found of a certificate that can be written
abbrev pub IsVerdict : Costs → Window → ℕ → Certificate → Verdict → Type 0
IsVerdict costs window ceiling c verdict =
    (¬ (IsOf window ceiling c) × (verdict ≡ OtherWindow))
    ⊎ (IsOf window ceiling c × IsFoundOf costs window ceiling c.head.first c.head.second (lines_of c) verdict)
