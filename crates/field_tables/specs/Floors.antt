-- Floors of blocks: what none of their legal sequences costs less than.
use Rattle.std.specs.Prelude.{ℕ, ◌<◌, ◌≤◌, min, Option, Some, None}
use Rattle.signal_base.specs.declared.window.Window.{Window}
use Rattle.definitions.specs.declared.block.Block.{Block}
use Rattle.definitions.specs.declared.sequence.Sequence.{Sequence}
use Rattle.definitions.specs.sequences.Walks.{IsLegal}
use Rattle.definitions.specs.heard.Costs.{Costs, sequence_cost}
use Rattle.definitions.specs.answers.Blocks.{IsIn}
use Rattle.walk_costs.specs.Walks.{PricedParts, cost_of}
use Rattle.field_tables.specs.Minutes.{sequence_at}
use Rattle.field_tables.specs.Sums.{Sums, costs_by}

-- No legal sequence of the block costs less. Where there is no floor, no sequence of the block is legal.
abbrev pub IsFloor : Costs → Window → Block → Option ℕ → Type 0
IsFloor costs window b None = (q : Sequence) → IsIn b q → ¬ (IsLegal window q)
IsFloor costs window b (Some n) = (q : Sequence) → IsIn b q → IsLegal window q → n ≤ sequence_cost costs window q

-- no sequence of the block costs a station less that begins in the minutes from `from` up to, and without, `to`
abbrev pub CostAtLeast : PricedParts → Block → ℕ → ℕ → ℕ → Type 0
CostAtLeast w b from to n = (t0 : ℕ) → from ≤ t0 → t0 < to → n ≤ cost_of w b.announced b.second t0

-- nor all stations together
abbrev pub AllCostAtLeast : Sums → Block → ℕ → ℕ → ℕ → Type 0
AllCostAtLeast sums b from to n = (t0 : ℕ) → from ≤ t0 → t0 < to → n ≤ sequence_cost (costs_by sums) sums.window (sequence_at b t0)

-- the sequences of a block that begin in the minutes from lo up to, and without, hi
abbrev pub piece : Block → ℕ → ℕ → Block
piece b lo hi = record { announced = b.announced; second = b.second; span = b.span; lo = lo; hi = hi }

-- the lesser of two floors, of which one may be none
abbrev pub lesser : Option ℕ → Option ℕ → Option ℕ
lesser None floor = floor
lesser (Some n) None = Some n
lesser (Some n) (Some m) = Some (min n m)
