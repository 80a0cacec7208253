-- What a search leaves of its steps.
use Rattle.std.specs.Prelude.{ℕ, ◌≡◌, ◌<◌, ◌≤◌, List, [], ◌∷◌, ◌++◌, length, Option}
use Rattle.std.specs.List.{AllByRecursion}
use Rattle.signal_base.specs.declared.window.Window.{Window}
use Rattle.definitions.specs.declared.block.Block.{Block}
use Rattle.definitions.specs.heard.Costs.{Costs}
use Rattle.race_words.specs.declared.view.View.{View}
use Rattle.race_words.specs.Sound.{times}
use Rattle.block_visits.specs.Visits.{items_at}
use Rattle.workers.specs.Searches.{AreItemsOf, AreNotBelow}
use Rattle.workers.specs.Steps.{Step, AreFirstSteps, AreSteps, keys_of, reads_of}
use Rattle.kept_steps.specs.OfWorkers.{IsOfWorker, IsWithin, KeepTo, with_keys}

-- lists with a step more at the end of the last one
abbrev pub with_last : List (List Step) → Step → List (List Step)
with_last [] s = []
with_last (last ∷ []) s = (last ++ s ∷ []) ∷ []
with_last (steps ∷ next ∷ lists) s = steps ∷ with_last (next ∷ lists) s

-- all steps, one list behind another
abbrev pub all_of : List (List Step) → List Step
all_of [] = []
all_of (steps ∷ lists) = steps ++ all_of lists

-- The lists are those of so many workers who shared the items, and the view is theirs together: the steps are those of visits of
-- the items that they drew, one list behind another, and what was read and offered is theirs.
pub record AreKept (costs : Costs) (window : Window) (ceiling : ℕ) (items : List Block) (workers : ℕ) (v : View) (lists : List (List Step)) : Type 0 where
  pub as_many : length lists ≡ workers
  pub are : AreSteps costs window ceiling (items_at items v.drawn) (all_of lists)
  pub read : v.reads ≡ reads_of (all_of lists)
  pub offered : v.offered ≡ keys_of ceiling (all_of lists)
  pub each : AllByRecursion (IsOfWorker ceiling) lists

-- The lists are those of a whole search of a window, which found this second key: each item was drawn once, and nothing that was
-- read is below that key.
pub record IsFound (costs : Costs) (window : Window) (ceiling workers : ℕ) (second : Option ℕ) (lists : List (List Step)) : Type 0 where
  pub items : List Block
  pub view : View
  pub are_items : AreItemsOf window items
  pub kept : AreKept costs window ceiling items workers view lists
  pub drawn : (number : ℕ) → number < length items → times number view.drawn ≡ 1
  pub not_below : AreNotBelow second view.reads

-- A visit of a block appended its steps to what was kept, and the view v became w by them. What the view knows in the end isn't
-- above anything that was read or offered: its floor not above a read, nor above the second-least of the least key that was known
-- before and of the keys that were offered, and its least key not above one of these.
pub record HasAppended (costs : Costs) (window : Window) (ceiling : ℕ) (b : Block) (v w : View) (before after : List Step) : Type 0 where
  pub steps : List Step
  pub after_is : after ≡ before ++ steps
  pub are : AreSteps costs window ceiling (b ∷ []) steps
  pub read : w.reads ≡ v.reads ++ reads_of steps
  pub offered : w.offered ≡ v.offered ++ keys_of ceiling steps
  pub keep_to : KeepTo ceiling v.floor (v.low ∷ []) steps
  pub read_above : AllByRecursion (λ seen. w.floor ≤ seen) (reads_of steps)
  pub least_known : AllByRecursion (λ key. w.low ≤ key) (keys_of ceiling steps)
  pub second_known : IsWithin (with_keys (v.low ∷ []) (keys_of ceiling steps)) w.floor

-- A visit that ended early appended the first of its steps. The view's share and what it drew are as before.
pub record HasLeft (costs : Costs) (window : Window) (ceiling : ℕ) (b : Block) (v w : View) (before after : List Step) : Type 0 where
  pub steps : List Step
  pub after_is : after ≡ before ++ steps
  pub are : AreFirstSteps costs window ceiling (b ∷ []) steps
  pub share : w.share ≡ v.share
  pub drawn : w.drawn ≡ v.drawn
