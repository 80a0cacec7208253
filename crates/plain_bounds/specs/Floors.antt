-- What the legal sequences of a block cost at the least, and which floors are too high for that.
use Rattle.std.specs.Prelude.{ℕ, ◌≡◌, ◌<◌, min, Option, Some, None}
use Rattle.signal_base.specs.declared.window.Window.{Window}
use Rattle.definitions.specs.declared.block.Block.{Block}
use Rattle.definitions.specs.declared.sequence.Sequence.{Sequence}
use Rattle.definitions.specs.answers.Blocks.{IsIn}
use Rattle.definitions.specs.heard.Costs.{Costs, sequence_cost}
use Rattle.definitions.specs.sequences.Walks.{IsLegal}
use Rattle.field_tables.specs.Floors.{IsFloor}

-- what the sequence costs, where it is legal
abbrev pub IsLegalCost : Costs → Window → Sequence → Option ℕ → Type 0
IsLegalCost costs window q None = ¬ (IsLegal window q)
IsLegalCost costs window q (Some n) = IsLegal window q × (n ≡ sequence_cost costs window q)

-- some legal sequence of the block costs that
abbrev pub SomeCosts : Costs → Window → Block → ℕ → Type 0
SomeCosts costs window b n = (q : Sequence) × IsIn b q × IsLegal window q × (n ≡ sequence_cost costs window q)

-- No legal sequence of the block costs less, and some costs that. There is no least where none is legal.
abbrev pub IsLeast : Costs → Window → Block → Option ℕ → Type 0
IsLeast costs window b None = IsFloor costs window b None
IsLeast costs window b (Some n) = IsFloor costs window b (Some n) × SomeCosts costs window b n

-- the lesser of two numbers, as far as there are any
abbrev pub lesser : Option ℕ → Option ℕ → Option ℕ
lesser None other = other
lesser (Some m) None = Some m
lesser (Some m) (Some n) = Some (min m n)

-- A floor is above the least cost. Where there is no floor, none of the costs may be there; where no sequence is legal, each
-- floor will do.
abbrev pub IsTooHigh : Option ℕ → Option ℕ → Type 0
IsTooHigh floor None = ⊥
IsTooHigh None (Some least) = Unit {0}
IsTooHigh (Some floor) (Some least) = least < floor
