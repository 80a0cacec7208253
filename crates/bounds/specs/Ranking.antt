-- The order of blocks by their bounds.
use Rattle.std.specs.Prelude.{ℕ, ◌≡◌, ◌≢◌, ◌+◌, ◌<◌, ◌≤◌, ◌^◌, List, [], ◌∷◌, ◌++◌, filter, map, not, Option, Some, None, IfSome}
use Rattle.std.specs.List.{All, AllByRecursion}
use Rattle.std.specs.List.Sorted.{IsPermutation}
use Rattle.signal_base.specs.declared.limits.TheConstants.{GREATEST_COST}
use Rattle.signal_base.specs.declared.window.Window.{Window}
use Rattle.definitions.specs.declared.block.Block.{Block}
use Rattle.definitions.specs.sequences.Keys.{ceiling_key, index_of}
use Rattle.definitions.specs.heard.Costs.{Costs}
use Rattle.definitions.specs.answers.Blocks.{IsBound, block_key, first_of}
use Rattle.bounds.specs.declared.ranking.Entry.{Entry}

-- Of two blocks with these bounds, the first stands no later: one with a bound before one without, two with a bound by
-- their keys, and two without by their first sequences.
abbrev pub StandsBefore : Option ℕ → Block → Option ℕ → Block → Type 0
StandsBefore (Some m) b (Some n) c = block_key m b ≤ block_key n c
StandsBefore (Some m) b None c = Unit {0}
StandsBefore None b (Some n) c = ⊥
StandsBefore None b None c = index_of (first_of b) ≤ index_of (first_of c)

-- the same of two blocks by the bounds that they have
pub record IsBefore (costs : Costs) (window : Window) (b c : Block) : Type 0 where
  pub bound : Option ℕ
  pub other : Option ℕ
  pub is_bound : IsBound costs window b bound
  pub is_other : IsBound costs window c other
  pub stands : StandsBefore bound b other c

-- each block stands before all that follow it
abbrev pub IsRanked : Costs → Window → List Block → Type 0
IsRanked costs window [] = Unit {0}
IsRanked costs window (b ∷ bs) = AllByRecursion (IsBefore costs window b) bs × IsRanked costs window bs

-- those that aren't announced are ranked, and behind them stand those that are, as they stood
pub record IsParted (costs : Costs) (window : Window) (blocks list : List Block) : Type 0 where
  pub front : List Block
  pub same : IsPermutation (filter (λ b. not b.announced) blocks) front
  pub ranked : IsRanked costs window front
  pub parted : list ≡ front ++ filter (λ b. b.announced) blocks

-- the order as one number: the key, and above all keys where there is no bound
abbrev pub rank_of : Option ℕ → Block → ℕ
rank_of (Some n) b = block_key n b
rank_of None b = ceiling_key GREATEST_COST + 1 + index_of (first_of b)

-- the entry's block has a bound that ranks it so
pub record IsEntry (costs : Costs) (window : Window) (e : Entry) : Type 0 where
  pub bound : Option ℕ
  pub is_bound : IsBound costs window e.block bound
  pub small : IfSome bound (λ n. n ≤ GREATEST_COST)
  pub index : index_of (first_of e.block) < 2 ^ 33
  pub rank : e.rank ≡ rank_of bound e.block

-- these are the entries of some blocks
pub record AreEntries (costs : Costs) (window : Window) (blocks : List Block) (entries : List Entry) : Type 0 where
  pub blocks_are : map (λ e. e.block) entries ≡ blocks
  pub each : All (IsEntry costs window) entries

-- no two of the blocks have the same first sequence
abbrev pub HaveOwnFirsts : List Block → Type 0
HaveOwnFirsts [] = Unit {0}
HaveOwnFirsts (b ∷ bs) = AllByRecursion (λ c. index_of (first_of b) ≢ index_of (first_of c)) bs × HaveOwnFirsts bs
