-- What those who search together have in common.
use Rattle.std.specs.Prelude.{ℕ, List}
use Rattle.signal_base.specs.declared.window.Window.{Window}
use Rattle.definitions.specs.declared.block.Block.{Block}
use Rattle.definitions.specs.heard.Costs.{Costs}
use Rattle.race_words.specs.Held.{RaceSeen}

-- their race, and the items that they search, with the costs, the window and the ceiling
pub record TeamSeen : Type 0 where
  pub race : RaceSeen
  pub costs : Costs
  pub window : Window
  pub ceiling : ℕ
  pub items : List Block
