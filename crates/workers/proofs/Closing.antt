-- Where each number was drawn once, a search has found the first two admitted sequences.
use Rattle.std.proofs.Common.{◌≡◌, ℕ, ◌<◌, ◌≤◌, ◌⊎◌, inl, inr, Bool, true, false, ◌&&◌, ◌==◌, if◌then◌else◌, List, length, Some, None, refl, ◌∙◌, subst, ⊎_elim, arith}
use Rattle.std.specs.List.{All, AllByRecursion, Contains}
use Rattle.std.specs.List.Sorted.{IsPermutation}
use Rattle.std.proofs.lemmas.Bool.{eqb-true}
use Rattle.std.proofs.lemmas.List.Elements.{All-contains, All-from_recursion, recursion_from_All}
use Rattle.std.proofs.lemmas.List.Sorted.{All-permutation, sum_by-IsPermutation}
use Rattle.signal_base.specs.declared.window.Window.{Window}
use Rattle.signal_base.specs.declared.limits.TheConstants.{GREATEST_COST}
use Rattle.definitions.specs.declared.sequence.Sequence.{Sequence}
use Rattle.definitions.specs.declared.block.Block.{Block}
use Rattle.definitions.specs.time.Calendar.{is_leap_end}
use Rattle.definitions.specs.sequences.Walks.{IsLegal}
use Rattle.definitions.specs.heard.Costs.{Costs, sequence_cost}
use Rattle.definitions.specs.answers.Blocks.{items, IsBlock}
use Rattle.definitions.specs.answers.FirstTwo.{AreLeastTwo, IsWindowKey}
use Rattle.race_words.specs.declared.view.View.{View}
use Rattle.race_words.specs.Keys.{no_key, two_least}
use Rattle.race_words.specs.Sound.{times, HasEachOnce}
use Rattle.block_visits.specs.Facts.{Facts}
use Rattle.block_visits.specs.Visits.{items_at}
use Rattle.workers.specs.Searches.{AreNotBelow, HasSearched}
use Rattle.block_visits.specs.Apart.{AreApart, key_if_any}
use Rattle.block_visits.proofs.Covering.{all_weaker, legal_is_sequence, offers_admitted}
use Rattle.block_visits.proofs.Counting.{one_in, count_in, in_one_counts, no_times, offers_no_more}
use Rattle.workers.proofs.Drawing.{drawn_le, drawn_all, place_of, at_most_once, below_is_drawn}
use Rattle.block_visits.proofs.TwoLeast.{least_two}

second_of : (s : ℕ) (announced ends : Bool) → s < (if announced && ends then 61 else 60) → s < (if announced then 61 else 60)
second_of s true true lt = lt
second_of s true false lt = omega arith
second_of s false ends lt = lt

module _ (costs : Costs) (window : Window) (ceiling : ℕ) (facts : Facts costs window ceiling) (list : List Block) (v : View) (searched : HasSearched costs window ceiling list v) (each : HasEachOnce v.drawn) where
  -- each item was drawn once
  pub items_drawn : (n : ℕ) → n < length list → times n v.drawn ≡ 1
  items_drawn n lt = below_is_drawn v.drawn each searched.used_up.0 n searched.used_up.1 (omega (arith, lt, searched.used_up.2))

  module _ (small : ceiling ≤ GREATEST_COST) (same : IsPermutation (items window) list) (under : (two_least v.offered).second ≤ v.floor) where
    abbrev visited : List Block
    visited = items_at list v.drawn

    blocks : AllByRecursion (IsBlock window) list
    blocks = recursion_from_All (IsBlock window) list
        (All-permutation (IsBlock window) (items window) list same (All-from_recursion (IsBlock window) (items window) facts.items_are))

    visited_blocks : AllByRecursion (IsBlock window) visited
    visited_blocks = drawn_all (IsBlock window) list v.drawn blocks

    in_one_item : (q : Sequence) → IsLegal window q → count_in q list ≡ 1
    in_one_item q legal =
        sum_by-IsPermutation (one_in q) (items window) list same
        ∙ in_one_counts q (items window)
        (facts.one_item q legal.0.not_before legal.0.before_end (second_of q.second q.announced (is_leap_end q.first) legal.0.second))

    all_admitted : AllByRecursion (IsWindowKey window costs ceiling) v.offered
    all_admitted =
        all_weaker costs window ceiling facts _ (IsWindowKey window costs ceiling) (λ k is. (is.0, is.2, is.3)) v.offered
        (offers_admitted costs window ceiling facts v.reads visited v.offered visited_blocks searched.driven)

    keys_below : (n : ℕ) → IsWindowKey window costs ceiling n → n < no_key
    keys_below n is =
        let most = facts.keys_within (sequence_cost costs window is.0) is.0 (legal_is_sequence costs window ceiling facts is.0 is.1.0) is.1.1 in
        omega (arith, most, is.2, small)

    all_apart : AreApart v.offered
    all_apart k =
        ⊎_elim (λ none. omega (arith, none))
        (λ has.
        let is = All-contains (IsWindowKey window costs ceiling) v.offered k (All-from_recursion (IsWindowKey window costs ceiling) v.offered all_admitted) has in
        let most = offers_no_more costs window ceiling facts v.reads visited v.offered (sequence_cost costs window is.0) is.0 visited_blocks searched.driven
        (legal_is_sequence costs window ceiling facts is.0 is.1.0) in
        let fewer = drawn_le (one_in is.0) list v.drawn (at_most_once v.drawn each) in
        subst (λ x. times x v.offered ≤ 1) is.2 (omega (arith, most, fewer, in_one_item is.0 is.1.0)))
        (no_times k v.offered)

    all_met : (n : ℕ) → IsWindowKey window costs ceiling n → Contains v.offered n ⊎ ((two_least v.offered).second < n)
    all_met n is =
        let place = place_of is.0 list (omega (arith, in_one_item is.0 is.1.0)) in
        let once = items_drawn place.0 place.4 in
        ⊎_elim (λ none. absurd (omega (arith, none, once)))
        (λ drawn. ⊎_elim inl (λ over. inr (omega (arith, over, under))) (searched.covered place.0 place.1 drawn place.2 n (is.0, (place.3, is.1), is.2)))
        (no_times place.0 v.drawn)

    pub found : AreLeastTwo (IsWindowKey window costs ceiling) (key_if_any (two_least v.offered).least) (key_if_any (two_least v.offered).second)
    found = least_two (IsWindowKey window costs ceiling) v.offered keys_below all_admitted all_apart all_met

-- reads that aren't below the second key
pub not_below : (second : ℕ) (reads : List ℕ) → All (λ seen. seen ≤ no_key) reads → All (λ seen. second ≤ seen) reads → AreNotBelow (key_if_any second) reads
not_below second reads known over = by_test (second == no_key) refl
  where
    by_test : (t : Bool) → (second == no_key) ≡ t → AreNotBelow (if t then None else Some second) reads
    by_test true e =
        λ k d lt. let most = known k d lt in let least = over k d lt in let is = eqb-true second no_key e in omega (arith, most, least, is)
    by_test false e = over
