-- Walks that a certificate tells are visits, by reads that pass over what was pruned and nothing else.
use Rattle.std.proofs.Common.{◌≡◌, ◌≢◌, ℕ, ◌<◌, ◌≤◌, Bool, true, false, nat_le, if◌then◌else◌, List, [], ◌∷◌, ◌++◌, map, Option, Some, None, refl, sym, ap, ◌∙◌, subst, arith, ⊎_elim}
use Rattle.std.specs.List.{AllByRecursion}
use Rattle.std.proofs.lemmas.Bool.{cases_Bool, le-leb, leb-true}
use Rattle.signal_base.specs.declared.limits.TheConstants.{GREATEST_COST}
use Rattle.signal_base.specs.declared.window.Window.{Window}
use Rattle.definitions.specs.declared.block.Block.{Block}
use Rattle.definitions.specs.declared.block.Span.{Span}
use Rattle.definitions.specs.declared.block.Span.TheVariants.{Year, Day, Hour, Minute}
use Rattle.definitions.specs.sequences.Walks.{IsSequence}
use Rattle.definitions.specs.heard.Costs.{Costs}
use Rattle.definitions.specs.answers.Blocks.{IsBlock, block_key, children, children_by, first_of}
use Rattle.race_words.specs.Keys.{no_key}
use Rattle.block_visits.specs.Facts.{Facts}
use Rattle.block_visits.specs.Visits.{AreVisits, limit_at, offered_by, offered_under, opened_under}
use Rattle.block_visits.proofs.Covering.{all_then}
use Rattle.certificates.specs.declared.certificate.Kind.{Kind}
use Rattle.certificates.specs.declared.certificate.Kind.TheVariants.{Opened, Pruned, Empty, Leaf}
use Rattle.certificates.specs.declared.certificate.Line.{Line}
use Rattle.certificates.specs.Certificates.{IsShaped}
use Rattle.certificates.specs.Validity.{AreWalks, IsAbove, leaf_as, leaf_keys, opened_as, opened_by}

-- what the visit reads at a line: the limit where the block was pruned, and else no key
abbrev pub read_as : ℕ → Kind → ℕ
read_as limit Opened = no_key
read_as limit Pruned = limit
read_as limit Empty = no_key
read_as limit Leaf = no_key

abbrev pub reads_of : ℕ → List Line → List ℕ
reads_of limit ls = map (λ l. read_as limit l.kind) ls

not_under : (k limit : ℕ) → limit < k → nat_le k limit ≡ false
not_under k limit over = ⊎_elim (λ e. absurd (omega (arith, over, leb-true k limit e))) (λ e. e) (cases_Bool (nat_le k limit))

no_offer : (s : Span) (k : ℕ) → s ≢ Minute → offered_by s k ≡ []
no_offer Year k long = refl
no_offer Day k long = refl
no_offer Hour k long = refl
no_offer Minute k long = absurd (long refl)

second_fits : (s : ℕ) (t : Bool) → s < (if t then 61 else 60) → s ≤ 60
second_fits s true lt = omega arith
second_fits s false lt = omega arith

module _ (costs : Costs) (window : Window) (facts : Facts costs window GREATEST_COST) (limit : ℕ) where
  block_sequence : (b : Block) → IsBlock window b → IsSequence (first_of b)
  block_sequence b block = record {
    first_minute = omega (arith, block.not_empty, block.ends, facts.century);
    first_second = second_fits b.second b.announced block.second;
  }

  -- a block with a bound isn't passed over where no key is read
  is_under : (b : Block) (n : ℕ) → IsBlock window b → n ≤ GREATEST_COST → nat_le (block_key n b) (limit_at GREATEST_COST no_key) ≡ true
  is_under b n block small =
      le-leb (block_key n b) (limit_at GREATEST_COST no_key) (omega (arith, facts.keys_within n (first_of b) (block_sequence b block) small))

  -- what a line offers, and what it opens
  pub same_offer : (kind : Kind) (b : Block) (bound : Option ℕ) → IsBlock window b → IsShaped kind b.span bound → IsAbove limit kind b bound
      → offered_under (limit_at GREATEST_COST (read_as limit kind)) b bound ≡ leaf_as kind b bound
  same_offer Opened b None block shape above = refl
  same_offer Opened b (Some n) block shape above =
      ap (λ t. if t then offered_by b.span (block_key n b) else []) (is_under b n block shape.1) ∙ no_offer b.span (block_key n b) shape.0
  same_offer Pruned b None block shape above = refl
  same_offer Pruned b (Some n) block shape above =
      ap (λ t. if t then offered_by b.span (block_key n b) else []) (not_under (block_key n b) (limit_at GREATEST_COST limit) (omega (arith, above)))
  same_offer Empty b None block shape above = refl
  same_offer Empty b (Some n) block shape above = absurd cc
  same_offer Leaf b None block shape above = refl
  same_offer Leaf b (Some n) block shape above =
      ap (λ t. if t then offered_by b.span (block_key n b) else []) (is_under b n block shape.1) ∙ ap (λ s. offered_by s (block_key n b)) shape.0

  pub same_opening : (kind : Kind) (b : Block) (bound : Option ℕ) → IsBlock window b → IsShaped kind b.span bound → IsAbove limit kind b bound
      → opened_under (limit_at GREATEST_COST (read_as limit kind)) b bound ≡ opened_as kind b
  same_opening Opened b None block shape above = absurd shape.1
  same_opening Opened b (Some n) block shape above = ap (λ t. if t then children b else []) (is_under b n block shape.1)
  same_opening Pruned b None block shape above = refl
  same_opening Pruned b (Some n) block shape above =
      ap (λ t. if t then children b else []) (not_under (block_key n b) (limit_at GREATEST_COST limit) (omega (arith, above)))
  same_opening Empty b None block shape above = refl
  same_opening Empty b (Some n) block shape above = absurd cc
  same_opening Leaf b None block shape above = refl
  same_opening Leaf b (Some n) block shape above =
      ap (λ t. if t then children b else []) (is_under b n block shape.1) ∙ ap (λ s. children_by s b) shape.0

  pub opened_blocks : (kind : Kind) (b : Block) → IsBlock window b → AllByRecursion (IsBlock window) (opened_as kind b)
  opened_blocks Opened b block = facts.blocks b block
  opened_blocks Pruned b block = tt
  opened_blocks Empty b block = tt
  opened_blocks Leaf b block = tt

  pub as_visits : (bs : List Block) (ls : List Line) → AllByRecursion (IsBlock window) bs → AreWalks costs window limit bs ls
      → AreVisits costs window GREATEST_COST bs (reads_of limit ls) (leaf_keys ls)
  as_visits [] [] blocks walks = refl
  as_visits [] (l ∷ ls) blocks walks = absurd walks
  as_visits (b ∷ bs) [] blocks walks = absurd walks
  as_visits (b ∷ bs) (l ∷ ls) blocks walks =
      let block : IsBlock window l.block = subst (IsBlock window) (sym walks.0) blocks.0 in
      let said = walks.1 in
      let offer = same_offer l.kind l.block l.bound block said.shape said.above in
      let opening = same_opening l.kind l.block l.bound block said.shape said.above in
      let rest = as_visits (opened_by l ++ bs) ls (all_then (IsBlock window) (opened_by l) bs (opened_blocks l.kind l.block block) blocks.1) walks.2 in
      subst (λ c. AreVisits costs window GREATEST_COST (c ∷ bs) (reads_of limit (l ∷ ls)) (leaf_keys (l ∷ ls))) walks.0 (
        l.bound,
        leaf_keys ls,
        said.bound,
        ap (λ ks. ks ++ leaf_keys ls) (sym offer),
        subst (λ os. AreVisits costs window GREATEST_COST (os ++ bs) (reads_of limit ls) (leaf_keys ls)) (sym opening) rest,
      )

  -- none of the reads is below the limit
  pub reads_above : limit ≤ no_key → (ls : List Line) → AllByRecursion (λ seen. limit ≤ seen) (reads_of limit ls)
  reads_above small [] = tt
  reads_above small (l ∷ ls) = (by_kind l.kind, reads_above small ls)
    where
      by_kind : (kind : Kind) → limit ≤ read_as limit kind
      by_kind Opened = small
      by_kind Pruned = omega arith
      by_kind Empty = small
      by_kind Leaf = small
