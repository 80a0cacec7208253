-- Which items were begun, as marks tell it.
use Rattle.std.specs.Prelude.{ℕ, ◌≡◌, ◌≢◌, ◌<◌, ◌≤◌, ◌↔◌, Bool, true, false, List, length, get_or}
use Rattle.definitions.specs.declared.block.Block.{Block}
use Rattle.certificates.specs.Validity.{IsOneOf}

-- no block stands at two places
abbrev pub HaveOwnPlaces : List Block → Type 0
HaveOwnPlaces bs = (j k : ℕ) (d : Block) → j < k → k < length bs → get_or bs j d ≢ get_or bs k d

-- Each item has a mark, which is set where the item was begun.
pub record AreMarked (items : List Block) (marks : List Bool) (begun : List Block) : Type 0 where
  pub room : length items ≤ length marks
  pub each : (k : ℕ) (d : Block) → k < length items → get_or marks k false ≡ true ↔ IsOneOf begun (get_or items k d)
