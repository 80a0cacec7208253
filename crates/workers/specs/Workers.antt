-- What workers of a search need of a seat, and what they leave.
use Rattle.std.specs.Prelude.{ℕ, ◌≡◌, ◌+◌, ◌^◌, ◌<◌, ◌≤◌, List, [], length, All, Contains}
use Rattle.std.specs.List.{AllByRecursion, FoldsTo}
use Rattle.signal_base.specs.declared.window.Window.{Window}
use Rattle.definitions.specs.declared.block.Block.{Block}
use Rattle.definitions.specs.heard.Costs.{Costs}
use Rattle.definitions.specs.answers.Blocks.{IsBlock}
use Rattle.race_words.specs.declared.view.View.{View}
use Rattle.race_words.specs.Held.{RaceSeen, SeatSeen}
use Rattle.race_words.specs.Keys.{no_key}
use Rattle.block_visits.specs.Visits.{AreDriven, items_at}
use Rattle.workers.specs.Steps.{Step, AreSteps, Takes}

-- the view of a seat that did nothing yet
pub record IsIdle (v : View) : Type 0 where
  pub drawn : v.drawn ≡ []
  pub offered : v.offered ≡ []
  pub reads : v.reads ≡ []
  pub floor : v.floor ≤ no_key

-- the items are blocks of the window, and can be counted
pub record AreItems (window : Window) (items : List Block) : Type 0 where
  pub blocks : AllByRecursion (IsBlock window) items
  pub few : length items < 2 ^ 32

-- some number that was drawn is beyond the last item
abbrev pub AreUsedUp : List Block → List ℕ → Type 0
AreUsedUp items drawn = (number : ℕ) × Contains drawn number × (length items ≤ number)

-- the view, but for what it drew
abbrev pub but_drawn : List ℕ → View → View
but_drawn numbers v = record v { drawn = numbers }

-- One worker took part with an idle view, until the items were used up: it visited those whose numbers it drew. But for
-- these numbers its view became w by the steps of the visits. What keeps them was told of each, which made p q.
pub record HasWorked {P : Type 0} (told : P → Step → P → Type 0) (costs : Costs) (window : Window) (ceiling : ℕ) (items : List Block) (v w : View) (p q : P) : Type 0 where
  pub steps : List Step
  pub are : AreSteps costs window ceiling (items_at items w.drawn) steps
  pub view : FoldsTo (Takes ceiling) v steps (but_drawn v.drawn w)
  pub kept : FoldsTo told p steps q
  pub used_up : AreUsedUp items w.drawn

-- a seat of this race that did nothing yet, with a share for some workers, the first of which has this number
pub record IsReady (r : RaceSeen) (whole first : ℕ) (s : SeatSeen) : Type 0 where
  pub race : s.race ≡ r.id
  pub share : s.view.share ≡ whole
  pub some : 1 ≤ whole
  pub few : first + whole ≤ 256
  pub idle : IsIdle s.view

-- a seat of this race whose workers took part, until the items were used up
pub record HasShared (r : RaceSeen) (costs : Costs) (window : Window) (ceiling : ℕ) (items : List Block) (s : SeatSeen) : Type 0 where
  pub race : s.race ≡ r.id
  pub driven : AreDriven costs window ceiling items s.view.drawn s.view.reads s.view.offered
  pub floors : All (λ seen. (s.view.floor ≤ seen) × (seen ≤ no_key)) s.view.reads
  pub used_up : AreUsedUp items s.view.drawn
