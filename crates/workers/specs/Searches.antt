-- What a visit and a whole search do to the view of a seat.
use Rattle.std.specs.Prelude.{ℕ, ◌≡◌, ◌≤◌, List, ◌++◌, slice_get, All, Contains, IsPermutation, Option, Some, MatchOption}
use Rattle.signal_base.specs.declared.window.Window.{Window}
use Rattle.definitions.specs.declared.block.Block.{Block}
use Rattle.definitions.specs.heard.Costs.{Costs}
use Rattle.definitions.specs.answers.Blocks.{items}
use Rattle.race_words.specs.declared.view.View.{View}
use Rattle.race_words.specs.Keys.{no_key}
use Rattle.workers.specs.Workers.{AreUsedUp}
use Rattle.block_visits.specs.Apart.{AreApart}
use Rattle.block_visits.specs.Visits.{AreDriven, IsBlockKey, IsCovered, IsVisit}

-- the view v became w by one visit of the block
pub record HasVisited (costs : Costs) (window : Window) (ceiling : ℕ) (b : Block) (v w : View) : Type 0 where
  -- what was read and offered, behind what had been
  pub reads : List ℕ
  pub keys : List ℕ
  pub read : w.reads ≡ v.reads ++ reads
  pub offered : w.offered ≡ v.offered ++ keys
  pub visit : IsVisit costs window ceiling b reads keys
  -- the keys are those of admitted sequences of the block, each once
  pub admitted : All (IsBlockKey costs window ceiling b) keys
  pub once : AreApart keys
  pub covered : IsCovered costs window ceiling b w.offered w.floor
  -- the rest stays, but that the two keys known may fall
  pub share : w.share ≡ v.share
  pub drawn : w.drawn ≡ v.drawn
  pub low : w.low ≤ v.low
  pub floor : w.floor ≤ v.floor

-- the list has each item of the window once, in any order
abbrev pub AreItemsOf : Window → List Block → Type 0
AreItemsOf window list = IsPermutation (items window) list

-- the view is that of workers who shared the items among them, until none was left
pub record HasSearched (costs : Costs) (window : Window) (ceiling : ℕ) (items : List Block) (v : View) : Type 0 where
  pub driven : AreDriven costs window ceiling items v.drawn v.reads v.offered
  pub covered : (number : ℕ) (item : Block) → Contains v.drawn number → slice_get items number ≡ Some item
      → IsCovered costs window ceiling item v.offered v.floor
  -- what was read is a key, or none
  pub known : All (λ seen. seen ≤ no_key) v.reads
  pub used_up : AreUsedUp items v.drawn

-- none of the reads is below the second key, and where there is none they read none
abbrev pub AreNotBelow : Option ℕ → List ℕ → Type 0
AreNotBelow second reads = MatchOption second (All (λ seen. seen ≡ no_key) reads) (λ key. All (λ seen. key ≤ seen) reads)
