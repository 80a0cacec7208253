-- The blocks that are due: the first that waits, or else an item.
use Rattle.std.proofs.Common.{◌≡◌, ◌≢◌, ℕ, zero, suc, ◌+◌, ◌*◌, ◌<◌, ◌≤◌, Bool, true, false, nat_lt, if◌then◌else◌, List, [], ◌∷◌, length, drop, length-append, refl, sym, ◌∙◌, ap, subst, arith}
use Rattle.std.specs.List.{AllByRecursion, flat_map, range_with_len}
use Rattle.signal_base.specs.declared.window.Window.{Window}
use Rattle.definitions.specs.declared.block.Block.{Block}
use Rattle.definitions.specs.declared.block.Span.{Span}
use Rattle.definitions.specs.declared.block.Span.TheVariants.{Year}
use Rattle.definitions.specs.answers.Blocks.{IsBlock, block_from, blocks, first_of, items, span_end}
use Rattle.definitions.specs.time.Calendar.{century_minutes}
use Rattle.definitions.specs.sequences.Walks.{IsSequence}
use Rattle.certificates.specs.Validity.{AreEachOnce, IsOneOf}
use Rattle.certificates.specs.Verdicts.{AreOver, IsDue, begun_with}
use Rattle.certificates.proofs.FoundLaws.{one_has}
use Rattle.certificate_judge.specs.Marks.{AreMarked, HaveOwnPlaces}
use Rattle.certificate_judge.proofs.MarkLaws.{own_places}

-- a window has few items
few_blocks : (announced : Bool) (second : ℕ) (span : Span) (n lo hi : ℕ) → length (blocks announced second span n lo hi) ≤ n
unfolding blocks
few_blocks announced second span zero lo hi = omega arith
few_blocks announced second span (suc n) lo hi = by_test (nat_lt lo hi) (few_blocks announced second span n (span_end span lo) hi)
  where
    by_test : (t : Bool) → length (blocks announced second span n (span_end span lo) hi) ≤ n
        → length (if t then block_from announced second span lo hi ∷ blocks announced second span n (span_end span lo) hi else []) ≤ suc n
    by_test true le = omega arith
    by_test false le = omega arith

few_in_all : (f : ℕ → List Block) (n : ℕ) → ((p : ℕ) → length (f p) ≤ n) → (ps : List ℕ) → length (flat_map f ps) ≤ length ps * n
few_in_all f n each [] = omega arith
few_in_all f n each (p ∷ ps) =
    subst (λ k. length (flat_map f (p ∷ ps)) ≤ k) (sym (suc_times (length ps)))
    (omega (arith, length-append (f p) (flat_map f ps), each p, few_in_all f n each ps))
  where
    suc_times : (k : ℕ) → suc k * n ≡ n + k * n
    suc_times k = omega arith

pub few_items : (window : Window) → length (items window) ≤ 12100
few_items window =
    let years : Bool → ℕ → List Block = λ announced p. blocks announced p Year 100 window.from window.to in
    omega (
      arith,
      length-append (flat_map (years false) (range_with_len 0 60)) (flat_map (years true) (range_with_len 0 61)),
      few_in_all (years false) 100 (λ p. few_blocks false p Year 100 window.from window.to) (range_with_len 0 60),
      few_in_all (years true) 100 (λ p. few_blocks true p Year 100 window.from window.to) (range_with_len 0 61),
    )

module _ (window : Window) (list : List Block) (same : list ≡ items window) where
  pub few_listed : length list ≤ 12100
  few_listed = omega (arith, few_items window, ap (λ (bs : List Block). length bs) same)

  pub own_places_listed : AreEachOnce (items window) (items window) → HaveOwnPlaces list
  own_places_listed each = subst HaveOwnPlaces (sym same) (own_places (items window) each.once)

  pub block_listed : (b : Block) → AllByRecursion (IsBlock window) (items window) → IsOneOf list b → IsBlock window b
  block_listed b all one = one_has (IsBlock window) (items window) b all (subst (λ (bs : List Block). IsOneOf bs b) same one)

-- the first sequence of a block
pub first_of_block : (window : Window) (b : Block) → window.to ≤ century_minutes → IsBlock window b → IsSequence (first_of b)
first_of_block window b century is = record {
  first_minute = omega (arith, is.not_empty, is.ends, century);
  first_second = by_announced b.announced is.second;
}
  where
    by_announced : (t : Bool) → b.second < (if t then 61 else 60) → b.second ≤ 60
    by_announced true less = omega (arith, less)
    by_announced false less = omega (arith, less)

-- a block waits
module _ (window : Window) (due rest begun : List Block) (b block : Block) (waits : due ≡ b ∷ rest) where
  pub due_first : b ≡ block → IsDue window due begun block
  due_first same = subst (λ (bs : List Block). IsDue window bs begun block) (sym waits) (sym same)

  pub not_first : b ≢ block → IsDue window due begun block → ⊥
  not_first other is = other (sym (subst (λ (bs : List Block). IsDue window bs begun block) waits is))

  pub begun_still : begun_with due begun block ≡ begun
  begun_still = ap (λ (bs : List Block). begun_with bs begun block) waits

  pub rest_waits : rest ≡ drop 1 due
  rest_waits = sym (ap (λ (bs : List Block). drop 1 bs) waits)

  pub not_over : AreOver window due begun → ⊥
  not_over over = absurd cc
    where
      both : b ∷ rest ≡ []
      both = sym waits ∙ over.0

-- no block waits
module _ (window : Window) (due begun : List Block) (block : Block) (none_waits : due ≡ []) where
  pub due_item : IsOneOf (items window) block × (IsOneOf begun block → ⊥) → IsDue window due begun block
  due_item is = subst (λ (bs : List Block). IsDue window bs begun block) (sym none_waits) is

  pub item_due : IsDue window due begun block → IsOneOf (items window) block × (IsOneOf begun block → ⊥)
  item_due is = subst (λ (bs : List Block). IsDue window bs begun block) none_waits is

  pub begun_more : begun_with due begun block ≡ block ∷ begun
  begun_more = ap (λ (bs : List Block). begun_with bs begun block) none_waits

  pub still_none : (left : List Block) → left ≡ [] → left ≡ drop 1 due
  still_none left e = e ∙ sym (ap (λ (bs : List Block). drop 1 bs) none_waits)
