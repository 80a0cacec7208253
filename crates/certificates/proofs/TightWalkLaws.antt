-- Some blocks have walks without a needless line, under any limit, and no others.
use Rattle.std.proofs.Common.{◌≡◌, ◌≢◌, ℕ, zero, suc, ◌<◌, ◌≤◌, ◌⊎◌, inl, inr, List, [], ◌∷◌, ◌++◌, Option, Some, None, refl, sym, ◌∙◌, subst, append_assoc, arith}
use Rattle.std.specs.List.{AllByRecursion}
use Rattle.std.proofs.lemmas.Bool.{cases_lt}
use Rattle.std.proofs.lemmas.List.{append-nil}
use Rattle.signal_base.specs.declared.limits.TheConstants.{GREATEST_COST}
use Rattle.signal_base.specs.declared.window.Window.{Window}
use Rattle.definitions.specs.declared.block.Block.{Block}
use Rattle.definitions.specs.declared.block.Span.{Span}
use Rattle.definitions.specs.declared.block.Span.TheVariants.{Year, Day, Hour, Minute}
use Rattle.definitions.specs.heard.Costs.{Costs}
use Rattle.definitions.specs.answers.Blocks.{IsBlock, IsBound, block_key, children, shorter}
use Rattle.definitions.proofs.ExistLaws.{Decided}
use Rattle.block_visits.specs.Facts.{Facts}
use Rattle.block_visits.proofs.Covering.{all_then}
use Rattle.certificates.specs.declared.certificate.Kind.{Kind}
use Rattle.certificates.specs.declared.certificate.Kind.TheVariants.{Opened, Pruned, Empty, Leaf}
use Rattle.certificates.specs.declared.certificate.Line.{Line}
use Rattle.certificates.specs.Certificates.{IsShaped}
use Rattle.certificates.specs.Validity.{AreTight, AreWalks, IsAbove, IsSaid, KeepsTo, opened_by}
use Rattle.certificates.proofs.ChoiceLaws.{decide_minute}

abbrev line_at : Kind → Block → Option ℕ → Line
line_at kind b bound = record { kind = kind; block = b; bound = bound }

-- how many spans are shorter
abbrev depth : Span → ℕ
depth Year = 3
depth Day = 2
depth Hour = 1
depth Minute = 0

shallower : (n : ℕ) (s : Span) → s ≢ Minute → depth s ≤ suc n → depth (shorter s) ≤ n
shallower n Year long deep = omega (arith, deep)
shallower n Day long deep = omega (arith, deep)
shallower n Hour long deep = omega arith
shallower n Minute long deep = absurd (long refl)

is_minute : (s : Span) → depth s ≤ 0 → s ≡ Minute
is_minute Year deep = absurd (omega (arith, deep))
is_minute Day deep = absurd (omega (arith, deep))
is_minute Hour deep = absurd (omega (arith, deep))
is_minute Minute deep = refl

each_shallower : (n : ℕ) (s : Span) → s ≢ Minute → depth s ≤ suc n → (cs : List Block) → AllByRecursion (λ c. c.span ≡ shorter s) cs → AllByRecursion (λ c. depth c.span ≤ n) cs
each_shallower n s long deep [] spans = tt
each_shallower n s long deep (c ∷ cs) spans =
    (subst (λ t. depth t ≤ n) (sym spans.0) (shallower n s long deep), each_shallower n s long deep cs spans.1)

module _ (costs : Costs) (window : Window) (limit : ℕ) where
  walks_then : (ls ms : List Line) (bs cs : List Block) → AreWalks costs window limit bs ls → AreWalks costs window limit cs ms → AreWalks costs window limit (bs ++ cs) (ls ++ ms)
  walks_then [] ms [] cs w v = v
  walks_then [] ms (b ∷ bs) cs w v = absurd w
  walks_then (l ∷ ls) ms [] cs w v = absurd w
  walks_then (l ∷ ls) ms (b ∷ bs) cs w v =
      (w.0, w.1, subst (λ os. AreWalks costs window limit os (ls ++ ms)) (append_assoc (opened_by l) bs cs) (walks_then ls ms (opened_by l ++ bs) cs w.2 v))

  abbrev Keeps : Line → Type 0
  Keeps l = KeepsTo limit l.kind l.block l.bound

  record HasWalks (bs : List Block) : Type 0 where
    lines : List Line
    walks : AreWalks costs window limit bs lines
    tight : AreTight limit lines

  abbrev pub SomeWalks : List Block → Type 0
  SomeWalks bs = (ls : List Line) × AreWalks costs window limit bs ls × AreTight limit ls

  module _ (facts : Facts costs window 0) (some_bound : (b : Block) → (m : Option ℕ) × IsBound costs window b m)
      (small : (b : Block) (n : ℕ) → IsBlock window b → IsBound costs window b (Some n) → n ≤ GREATEST_COST) where
    at_block : (b : Block) → IsBlock window b → (b.span ≢ Minute → HasWalks (children b)) → HasWalks (b ∷ [])
    at_block b block inside = by_bound (some_bound b).0 (some_bound b).1
      where
        opened : (n : ℕ) → IsBound costs window b (Some n) → block_key n b ≤ limit → b.span ≢ Minute → HasWalks (children b) → HasWalks (b ∷ [])
        opened n bound under long rest = record {
          lines = line_at Opened b (Some n) ∷ rest.lines;
          walks = (
            refl,
            record { shape = (long, small b n block bound); bound = bound; above = tt },
            subst (λ os. AreWalks costs window limit os rest.lines) (sym (append-nil (children b))) rest.walks,
          );
          tight = (under, rest.tight);
        }

        by_span : (n : ℕ) → IsBound costs window b (Some n) → block_key n b ≤ limit → Decided (b.span ≡ Minute) → HasWalks (b ∷ [])
        by_span n bound under (inl minute) = record {
          lines = line_at Leaf b (Some n) ∷ [];
          walks = (refl, record { shape = (minute, small b n block bound); bound = bound; above = tt }, tt);
          tight = (under, tt);
        }
        by_span n bound under (inr long) = opened n bound under long (inside long)

        by_key : (n : ℕ) → IsBound costs window b (Some n) → (limit < block_key n b) ⊎ (block_key n b ≤ limit) → HasWalks (b ∷ [])
        by_key n bound (inl over) = record {
          lines = line_at Pruned b (Some n) ∷ [];
          walks = (refl, record { shape = small b n block bound; bound = bound; above = over }, tt);
          tight = (tt, tt);
        }
        by_key n bound (inr under) = by_span n bound under (decide_minute b.span)

        by_bound : (m : Option ℕ) → IsBound costs window b m → HasWalks (b ∷ [])
        by_bound None bound = record {
          lines = line_at Empty b None ∷ [];
          walks = (refl, record { shape = refl; bound = bound; above = tt }, tt);
          tight = (tt, tt);
        }
        by_bound (Some n) bound = by_key n bound (cases_lt limit (block_key n b))

    all_by : (n : ℕ) → ((b : Block) → IsBlock window b → depth b.span ≤ n → HasWalks (b ∷ [])) → (bs : List Block) → AllByRecursion (IsBlock window) bs
        → AllByRecursion (λ c. depth c.span ≤ n) bs → HasWalks bs
    all_by n each [] blocks deep = record { lines = []; walks = tt; tight = tt }
    all_by n each (b ∷ bs) blocks deep =
        let first = each b blocks.0 deep.0 in
        let rest = all_by n each bs blocks.1 deep.1 in
        record {
          lines = first.lines ++ rest.lines;
          walks = walks_then first.lines rest.lines (b ∷ []) bs first.walks rest.walks;
          tight = all_then_lines first.lines rest.lines first.tight rest.tight;
        }
      where
        all_then_lines : (ls ms : List Line) → AreTight limit ls → AreTight limit ms → AreTight limit (ls ++ ms)
        all_then_lines ls ms a c = all_then Keeps ls ms a c

    one_walk : (n : ℕ) (b : Block) → IsBlock window b → depth b.span ≤ n → HasWalks (b ∷ [])
    one_walk zero b block deep = at_block b block (λ long. absurd (long (is_minute b.span deep)))
    one_walk (suc n) b block deep =
        at_block b block (λ long. all_by n (one_walk n) (children b) (facts.blocks b block) (each_shallower n b.span long deep (children b) (facts.spans b block)))

    deepest : (s : Span) → depth s ≤ 3
    deepest Year = omega arith
    deepest Day = omega arith
    deepest Hour = omega arith
    deepest Minute = omega arith

    all_deep : (bs : List Block) → AllByRecursion (λ c. depth c.span ≤ 3) bs
    all_deep [] = tt
    all_deep (b ∷ bs) = (deepest b.span, all_deep bs)

    pub tight_walks : (bs : List Block) → AllByRecursion (IsBlock window) bs → SomeWalks bs
    tight_walks bs blocks = let found = all_by 3 (one_walk 3) bs blocks (all_deep bs) in (found.lines, found.walks, found.tight)

  -- such walks are one
  only_empty : (k : Kind) (s : Span) → IsShaped k s None → k ≡ Empty
  only_empty Opened s shape = absurd shape.1
  only_empty Pruned s shape = absurd shape
  only_empty Empty s shape = refl
  only_empty Leaf s shape = absurd shape.1

  -- a kind that goes with a bound, and keeps to the limit
  abbrev IsFit : Kind → Block → ℕ → Type 0
  IsFit k b n = IsShaped k b.span (Some n) × (IsAbove limit k b (Some n) × KeepsTo limit k b (Some n))

  not_empty : (b : Block) (n : ℕ) → IsFit Empty b n → ⊥
  not_empty b n fit = none fit.0
    where
      none : ◌≡◌ {A = Option ℕ} (Some n) None → ⊥
      none e = absurd cc

  one_kind : (k j : Kind) (b : Block) (n : ℕ) → IsFit k b n → IsFit j b n → k ≡ j
  one_kind Empty j b n h g = absurd (not_empty b n h)
  one_kind Opened Empty b n h g = absurd (not_empty b n g)
  one_kind Pruned Empty b n h g = absurd (not_empty b n g)
  one_kind Leaf Empty b n h g = absurd (not_empty b n g)
  one_kind Opened Opened b n h g = refl
  one_kind Pruned Pruned b n h g = refl
  one_kind Leaf Leaf b n h g = refl
  one_kind Opened Pruned b n h g = absurd (omega (arith, h.1.1, g.1.0))
  one_kind Pruned Opened b n h g = absurd (omega (arith, h.1.0, g.1.1))
  one_kind Leaf Pruned b n h g = absurd (omega (arith, h.1.1, g.1.0))
  one_kind Pruned Leaf b n h g = absurd (omega (arith, h.1.0, g.1.1))
  one_kind Opened Leaf b n h g = absurd (h.0.0 g.0.0)
  one_kind Leaf Opened b n h g = absurd (g.0.0 h.0.0)

  same_kind : (v : Option ℕ) (k j : Kind) (b : Block) → IsShaped k b.span v → IsAbove limit k b v → KeepsTo limit k b v
      → IsShaped j b.span v → IsAbove limit j b v → KeepsTo limit j b v → k ≡ j
  same_kind None k j b shape above keeps shape' above' keeps' = only_empty k b.span shape ∙ sym (only_empty j b.span shape')
  same_kind (Some n) k j b shape above keeps shape' above' keeps' = one_kind k j b n (shape, (above, keeps)) (shape', (above', keeps'))

  module _ (one_bound : (b : Block) (m n : Option ℕ) → IsBound costs window b m → IsBound costs window b n → m ≡ n) where
    pub same_line : (l m : Line) → l.block ≡ m.block → IsSaid costs window limit l → Keeps l → IsSaid costs window limit m → Keeps m → l ≡ m
    same_line l m block said keeps also too = λ i. record { kind = kinds i; block = block i; bound = bounds i }
      where
        bounds : l.bound ≡ m.bound
        bounds = one_bound m.block l.bound m.bound (subst (λ b. IsBound costs window b l.bound) block said.bound) also.bound

        kinds : l.kind ≡ m.kind
        kinds =
            same_kind m.bound l.kind m.kind m.block
            (subst (λ v. IsShaped l.kind m.block.span v) bounds (subst (λ (b : Block). IsShaped l.kind b.span l.bound) block said.shape))
            (subst (λ v. IsAbove limit l.kind m.block v) bounds (subst (λ b. IsAbove limit l.kind b l.bound) block said.above))
            (subst (λ v. KeepsTo limit l.kind m.block v) bounds (subst (λ b. KeepsTo limit l.kind b l.bound) block keeps))
            also.shape also.above too

    pub one_walks : (ls ms : List Line) (bs : List Block) → AreWalks costs window limit bs ls → AreTight limit ls → AreWalks costs window limit bs ms → AreTight limit ms → ls ≡ ms
    one_walks [] [] [] w t v u = refl
    one_walks [] (m ∷ ms) [] w t v u = absurd v
    one_walks (l ∷ ls) ms [] w t v u = absurd w
    one_walks [] ms (b ∷ bs) w t v u = absurd w
    one_walks (l ∷ ls) [] (b ∷ bs) w t v u = absurd v
    one_walks (l ∷ ls) (m ∷ ms) (b ∷ bs) w t v u =
        let first = same_line l m (w.0 ∙ sym v.0) w.1 t.0 v.1 u.0 in
        let rest = one_walks ls ms (opened_by l ++ bs) w.2 t.1 (subst (λ (k : Line). AreWalks costs window limit (opened_by k ++ bs) ms) (sym first) v.2) u.1 in
        λ i. first i ∷ rest i
