-- Blocks that are passed over by a floor, with one read that stands for all reads of their visits.
use Rattle.std.specs.Prelude.{ℕ, suc, ◌≡◌, nat_lt, Bool, true, List, [], ◌∷◌, length, Option, Some, None, MatchBool}
use Rattle.std.specs.List.{AllByRecursion, FoldsTo}
use Rattle.signal_base.specs.declared.window.Window.{Window}
use Rattle.definitions.specs.declared.block.Block.{Block}
use Rattle.definitions.specs.heard.Costs.{Costs}
use Rattle.definitions.specs.answers.Blocks.{block_key}
use Rattle.race_words.specs.declared.view.View.{View}
use Rattle.race_words.specs.Views.{after_limit}
use Rattle.block_visits.specs.Visits.{limit_at}
use Rattle.workers.specs.Steps.{Step, AreSteps, Takes, keys_of}

-- whether the key of a block's floor is above the limit; a block of which no sequence is legal has none
abbrev pub is_above : ℕ → Block → Option ℕ → Bool
is_above limit b None = true
is_above limit b (Some floor) = nat_lt limit (block_key floor b)

-- the steps of a visit of the block by reads that are all the same, which offer nothing
pub record ArePassing (costs : Costs) (window : Window) (ceiling : ℕ) (b : Block) (seen : ℕ) (steps : List Step) : Type 0 where
  pub are : AreSteps costs window ceiling (b ∷ []) steps
  pub same : AllByRecursion (λ s. s.seen ≡ seen) steps
  pub none : keys_of ceiling steps ≡ []

-- The block was passed over: the view v became w by the steps of a visit of it, which offer nothing and of which nothing is kept.
pub record HasPassed (costs : Costs) (window : Window) (ceiling : ℕ) (b : Block) (v w : View) : Type 0 where
  pub steps : List Step
  pub are : AreSteps costs window ceiling (b ∷ []) steps
  pub none : keys_of ceiling steps ≡ []
  pub view : FoldsTo (Takes ceiling) v steps w

-- By how much more than one look a read counts that finds `seen`: where the floor passes the block over, it counts as the reads
-- of all these steps, and else as one.
abbrev pub CountsAs : Costs → Window → ℕ → Block → Option ℕ → ℕ → ℕ → Type 0
CountsAs costs window ceiling b floor seen more =
    MatchBool (is_above (limit_at ceiling seen) b floor)
    ((steps : List Step) × ArePassing costs window ceiling b seen steps × (length steps ≡ suc more))
    (more ≡ 0)

-- the view v became w by such a read
abbrev pub HasLooked : Costs → Window → ℕ → Block → Option ℕ → ℕ → View → View → Type 0
HasLooked costs window ceiling b floor seen v w =
    MatchBool (is_above (limit_at ceiling seen) b floor) (HasPassed costs window ceiling b v w) (w ≡ after_limit seen v)
