-- What keeps the steps of a search that workers share.
use Rattle.std.specs.Prelude.{ℕ, ◌≡◌, List, [], ◌∷◌, ◌++◌, length}
use Rattle.std.specs.List.{AllByRecursion, FoldsTo}
use Rattle.signal_base.specs.declared.window.Window.{Window}
use Rattle.definitions.specs.declared.block.Block.{Block}
use Rattle.definitions.specs.heard.Costs.{Costs}
use Rattle.race_words.specs.declared.view.View.{View}
use Rattle.race_words.specs.Held.{RaceSeen, SeatSeen}
use Rattle.block_visits.specs.Visits.{items_at}
use Rattle.workers.specs.Steps.{Step, AreSteps, Takes, keys_of, reads_of}
use Rattle.workers.specs.Workers.{HasShared, IsIdle}

-- How workers shared a search: one alone, who took these steps, or two halves
pub data Shares : Type 0 where
  alone : (steps : List Step) → Shares
  halves : (near far : Shares) → Shares

-- the steps of each worker
abbrev pub lists_of : Shares → List (List Step)
lists_of (alone steps) = steps ∷ []
lists_of (halves near far) = lists_of near ++ lists_of far

-- all steps, one worker's behind another's
abbrev pub steps_of : Shares → List Step
steps_of (alone steps) = steps
steps_of (halves near far) = steps_of near ++ steps_of far

-- One worker took these steps: the first was taken with a view that had done nothing
abbrev pub AreTaken : ℕ → List Step → Type 0
AreTaken ceiling steps = (v : View) × (w : View) × IsIdle v × FoldsTo (Takes ceiling) v steps w

-- What keeps the steps was told of those of one worker, in their order, which made p q. Or it was parted, each part was told of
-- one half, and the parts were joined.
abbrev pub IsTold : {P : Type 0} → (P → Step → P → Type 0) → (P → P → P → Type 0) → (P → P → P → Type 0) → Shares → P → P → Type 0
IsTold told parts joins (alone steps) p q = FoldsTo told p steps q
IsTold {P} told parts joins (halves near far) p q =
    (r : P) × (s : P) × (r' : P) × (s' : P) × parts p r s × IsTold told parts joins near r r' × IsTold told parts joins far s s' × joins r' s' q

-- So many workers took part, and the view is theirs together. What keeps their steps was told of them, which made p q.
pub record HaveRecorded {P : Type 0} (told : P → Step → P → Type 0) (parts joins : P → P → P → Type 0) (costs : Costs) (window : Window) (ceiling : ℕ) (items : List Block) (workers : ℕ) (v : View) (p q : P) : Type 0 where
  pub shares : Shares
  pub as_many : length (lists_of shares) ≡ workers
  -- the steps are those of visits of the items drawn, and what was read and offered is theirs
  pub are : AreSteps costs window ceiling (items_at items v.drawn) (steps_of shares)
  pub read : v.reads ≡ reads_of (steps_of shares)
  pub offered : v.offered ≡ keys_of ceiling (steps_of shares)
  pub each : AllByRecursion (AreTaken ceiling) (lists_of shares)
  pub kept : IsTold told parts joins shares p q

-- the same of a seat of this race, whose workers took part until the items were used up
pub record HaveShared {P : Type 0} (told : P → Step → P → Type 0) (parts joins : P → P → P → Type 0) (r : RaceSeen) (costs : Costs) (window : Window) (ceiling : ℕ) (items : List Block) (workers : ℕ) (s : SeatSeen) (p q : P) : Type 0 where
  pub shared : HasShared r costs window ceiling items s
  pub recorded : HaveRecorded told parts joins costs window ceiling items workers s.view p q
