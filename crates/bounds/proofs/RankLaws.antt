-- Blocks in the order of their ranks are ranked.
use Rattle.std.proofs.Common.{ℕ, suc, ◌<◌, ◌≤◌, ◌^◌, List, [], ◌∷◌, length, get_or, map, Option, Some, None, IfSome, arith}
use Rattle.std.specs.List.{All, AllByRecursion}
use Rattle.std.specs.List.Sorted.{IsNonDecreasingBy}
use Rattle.std.proofs.lemmas.List.Elements.{recursion_from_All}
use Rattle.signal_base.specs.declared.limits.TheConstants.{GREATEST_COST}
use Rattle.signal_base.specs.declared.window.Window.{Window}
use Rattle.definitions.specs.declared.block.Block.{Block}
use Rattle.definitions.specs.sequences.Keys.{index_of}
use Rattle.definitions.specs.heard.Costs.{Costs}
use Rattle.definitions.specs.answers.Blocks.{first_of}
use Rattle.bounds.specs.declared.ranking.Entry.{Entry}
use Rattle.bounds.specs.Ranking.{StandsBefore, IsBefore, IsRanked, IsEntry, rank_of}

-- ranks tell the order
stands : (m n : Option ℕ) (b c : Block) → IfSome n (λ n. n ≤ GREATEST_COST) → index_of (first_of c) < 2 ^ 33 → rank_of m b ≤ rank_of n c → StandsBefore m b n c
stands (Some m) (Some n) b c small index le = le
stands (Some m) None b c small index le = tt
stands None (Some n) b c small index le = absurd (omega (arith, small, index, le))
stands None None b c small index le = omega (arith, le)

module _ (costs : Costs) (window : Window) where
  is_before : (e f : Entry) → IsEntry costs window e → IsEntry costs window f → e.rank ≤ f.rank → IsBefore costs window e.block f.block
  is_before e f is other le =
      record {
        bound = is.bound;
        other = other.bound;
        is_bound = is.is_bound;
        is_other = other.is_bound;
        stands = stands is.bound other.bound e.block f.block other.small other.index (omega (arith, is.rank, other.rank, le));
      }

  before_all : (e : Entry) → IsEntry costs window e → (fs : List Entry) → AllByRecursion (IsEntry costs window) fs
      → ((k : ℕ) (d : Entry) → k < length fs → e.rank ≤ (get_or fs k d).rank) → AllByRecursion (IsBefore costs window e.block) (map (λ f. f.block) fs)
  before_all e is [] each rise = tt
  before_all e is (f ∷ fs) each rise =
      (is_before e f is each.0 (rise 0 f (omega arith)), before_all e is fs each.1 (λ k d lt. rise (suc k) d (omega (arith, lt))))

  each_before : (es : List Entry) → AllByRecursion (IsEntry costs window) es → IsNonDecreasingBy (λ e. e.rank) es → IsRanked costs window (map (λ e. e.block) es)
  each_before [] each rise = tt
  each_before (e ∷ es) each rise = (
    before_all e each.0 es each.1 (λ k d lt. rise 0 (suc k) d (omega arith) (omega (arith, lt))),
    each_before es each.1 (λ i j d le lt. rise (suc i) (suc j) d (omega (arith, le)) (omega (arith, lt))),
  )

-- entries in rising order of their ranks have their blocks in order
pub ranks_order : (costs : Costs) (window : Window) (es : List Entry) → All (IsEntry costs window) es → IsNonDecreasingBy (λ e. e.rank) es
    → IsRanked costs window (map (λ e. e.block) es)
ranks_order costs window es each rise = each_before costs window es (recursion_from_All _ _ each) rise
