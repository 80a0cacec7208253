-- What workers shared was searched.
use Rattle.std.proofs.Common.{◌≡◌, ℕ, zero, suc, ◌+◌, ◌*◌, ◌≤◌, inl, inr, Bool, true, false, nat_lt, if◌then◌else◌, List, [], ◌∷◌, length, length-append, slice_get, Option, Some, None, sym, ap, ◌∙◌, subst, ⊎_elim, arith}
use Rattle.std.specs.List.{Contains, cons_option, flat_map, range_with_len}
use Rattle.std.proofs.lemmas.List.Elements.{All-from_recursion, All-weaker, recursion_from_All}
use Rattle.std.proofs.lemmas.List.Sorted.{All-permutation, length_permutation}
use Rattle.signal_base.specs.declared.window.Window.{Window}
use Rattle.definitions.specs.declared.block.Block.{Block}
use Rattle.definitions.specs.declared.block.Span.{Span}
use Rattle.definitions.specs.declared.block.Span.TheVariants.{Year}
use Rattle.definitions.specs.declared.sequence.Sequence.{Sequence}
use Rattle.definitions.specs.heard.Costs.{Costs}
use Rattle.definitions.specs.answers.Blocks.{block_from, blocks, items, span_end, IsBlock, IsIn}
use Rattle.race_words.specs.Held.{RaceSeen, SeatSeen}
use Rattle.race_words.specs.Keys.{no_key}
use Rattle.block_visits.specs.Facts.{Facts}
use Rattle.block_visits.specs.Visits.{items_at}
use Rattle.workers.specs.Searches.{AreItemsOf, HasSearched}
use Rattle.workers.specs.Workers.{AreItems, HasShared}
use Rattle.block_visits.proofs.Covering.{IsInSome, IsMet, covers}
use Rattle.workers.proofs.Drawing.{drawn_all}
use Rattle.block_visits.proofs.TwoLeast.{contains_cases}

-- a window has few items
few_blocks : (announced : Bool) (second : ℕ) (span : Span) (n lo hi : ℕ) → length (blocks announced second span n lo hi) ≤ n
unfolding blocks
few_blocks announced second span zero lo hi = omega arith
few_blocks announced second span (suc n) lo hi = by_test (nat_lt lo hi) (few_blocks announced second span n (span_end span lo) hi)
  where
    by_test : (t : Bool) → length (blocks announced second span n (span_end span lo) hi) ≤ n
        → length (if t then block_from announced second span lo hi ∷ blocks announced second span n (span_end span lo) hi else []) ≤ suc n
    by_test true le = omega arith
    by_test false le = omega arith

few_in_all : (f : ℕ → List Block) (n : ℕ) → ((p : ℕ) → length (f p) ≤ n) → (ps : List ℕ) → length (flat_map f ps) ≤ length ps * n
few_in_all f n each [] = omega arith
few_in_all f n each (p ∷ ps) =
    subst (λ k. length (flat_map f (p ∷ ps)) ≤ k) (sym (suc_times (length ps)))
    (omega (arith, length-append (f p) (flat_map f ps), each p, few_in_all f n each ps))
  where
    suc_times : (k : ℕ) → suc k * n ≡ n + k * n
    suc_times k = omega arith

few_items : (window : Window) → length (items window) ≤ 12100
few_items window =
    let years : Bool → ℕ → List Block = λ announced p. blocks announced p Year 100 window.from window.to in
    omega (
      arith,
      length-append (flat_map (years false) (range_with_len 0 60)) (flat_map (years true) (range_with_len 0 61)),
      few_in_all (years false) 100 (λ p. few_blocks false p Year 100 window.from window.to) (range_with_len 0 60),
      few_in_all (years true) 100 (λ p. few_blocks true p Year 100 window.from window.to) (range_with_len 0 61),
    )

module _ (costs : Costs) (window : Window) (ceiling : ℕ) (facts : Facts costs window ceiling) (list : List Block) (same : AreItemsOf window list) where
  pub are_items : AreItems window list
  are_items = record {
    blocks = recursion_from_All (IsBlock window) list
        (All-permutation (IsBlock window) (items window) list same (All-from_recursion (IsBlock window) (items window) facts.items_are));
    few = omega (arith, length_permutation (items window) list same, few_items window);
  }

  -- an item that was drawn is one of those visited
  drawn_in_some : (drawn : List ℕ) (n : ℕ) (b : Block) (q : Sequence) → Contains drawn n → slice_get list n ≡ Some b → IsIn b q → IsInSome (items_at list drawn) q
  drawn_in_some [] n b q has is in_it = absurd (omega (arith, has.1))
  drawn_in_some (m ∷ ms) n b q has is in_it =
      ⊎_elim (λ first. at (slice_get list m) (ap (slice_get list) first ∙ is))
      (λ later. behind (slice_get list m) (drawn_in_some ms n b q later is in_it)) (contains_cases m n ms has)
    where
      behind : (o : Option Block) → IsInSome (items_at list ms) q → IsInSome (cons_option o (items_at list ms)) q
      behind None some = some
      behind (Some x) some = inr some

      at : (o : Option Block) → o ≡ Some b → IsInSome (cons_option o (items_at list ms)) q
      at None e = absurd cc
      at (Some x) e = inl (subst (λ x. IsIn x q) (cc) in_it)

  pub searched : (r : RaceSeen) (s : SeatSeen) → HasShared r costs window ceiling list s → HasSearched costs window ceiling list s.view
  searched r s shared = record {
    driven = shared.driven;
    covered = λ n b has is key of.
        subst (IsMet costs window ceiling facts s.view.offered s.view.floor) of.2
        (covers costs window ceiling facts s.view.reads (items_at list s.view.drawn) s.view.offered s.view.floor
        (drawn_all (IsBlock window) list s.view.drawn are_items.blocks) shared.driven
        (All-weaker (λ seen. (s.view.floor ≤ seen) × (seen ≤ no_key)) (λ seen. s.view.floor ≤ seen) (λ seen both. both.0) s.view.reads shared.floors)
        of.0 of.1.1 (drawn_in_some s.view.drawn n b of.0 has is of.1.0));
    known = All-weaker (λ seen. (s.view.floor ≤ seen) × (seen ≤ no_key)) (λ seen. seen ≤ no_key) (λ seen both. both.1) s.view.reads shared.floors;
    used_up = shared.used_up;
  }
