-- The steps of visits, one for each block that they come to.
use Rattle.std.specs.Prelude.{ℕ, ◌≡◌, ◌≤◌, List, [], ◌∷◌, ◌++◌, map, Option, Some}
use Rattle.std.specs.List.{flat_map, FoldsTo}
use Rattle.signal_base.specs.declared.window.Window.{Window}
use Rattle.definitions.specs.declared.block.Block.{Block}
use Rattle.definitions.specs.declared.block.Span.{Span}
use Rattle.definitions.specs.declared.block.Span.TheVariants.{Year, Day, Hour, Minute}
use Rattle.definitions.specs.heard.Costs.{Costs}
use Rattle.definitions.specs.answers.Blocks.{IsBound, block_key}
use Rattle.race_words.specs.declared.view.View.{View}
use Rattle.race_words.specs.Views.{after_limit, after_offer}
use Rattle.block_visits.specs.Visits.{limit_at, offered_under, opened_under}

-- a block, its bound, and what was read there
pub record Step : Type 0 where
  pub block : Block
  pub bound : Option ℕ
  pub seen : ℕ

-- the keys that a step offers
abbrev pub offered_at : ℕ → Step → List ℕ
offered_at ceiling s = offered_under (limit_at ceiling s.seen) s.block s.bound

-- what some steps read and offered
abbrev pub reads_of : List Step → List ℕ
reads_of steps = map (λ s. s.seen) steps

abbrev pub keys_of : ℕ → List Step → List ℕ
keys_of ceiling steps = flat_map (offered_at ceiling) steps

-- the steps are those of visits of these blocks, one after the other: each block has a step, then come those that it
-- opens, and then those after it
abbrev pub AreSteps : Costs → Window → ℕ → List Block → List Step → Type 0
AreSteps costs window ceiling [] [] = Unit {0}
AreSteps costs window ceiling [] (s ∷ ss) = ⊥
AreSteps costs window ceiling (b ∷ bs) [] = ⊥
AreSteps costs window ceiling (b ∷ bs) (s ∷ ss) =
    (s.block ≡ b) × IsBound costs window b s.bound
    × AreSteps costs window ceiling (opened_under (limit_at ceiling s.seen) b s.bound ++ bs) ss

-- the steps are the first of such visits, which may stop after any of them
abbrev pub AreFirstSteps : Costs → Window → ℕ → List Block → List Step → Type 0
AreFirstSteps costs window ceiling bs [] = Unit {0}
AreFirstSteps costs window ceiling [] (s ∷ ss) = ⊥
AreFirstSteps costs window ceiling (b ∷ bs) (s ∷ ss) =
    (s.block ≡ b) × IsBound costs window b s.bound
    × AreFirstSteps costs window ceiling (opened_under (limit_at ceiling s.seen) b s.bound ++ bs) ss

-- a view after these keys were offered
abbrev pub Offers : List ℕ → View → View → Type 0
Offers [] v w = w ≡ v
Offers (key ∷ keys) v w = (least : ℕ) × (least ≤ v.low) × Offers keys (after_offer key least v) w

-- a view before a step and after it: it read what was seen, which was not above its floor, and offered the step's keys
abbrev pub Takes : ℕ → View → Step → View → Type 0
Takes ceiling v s w = (s.seen ≤ v.floor) × Offers (offered_at ceiling s) (after_limit s.seen v) w

-- Blocks were visited by some steps, one after the other. The view v became w by them, and what keeps them was told of each,
-- which made p q.
pub record HaveWalked {P : Type 0} (told : P → Step → P → Type 0) (costs : Costs) (window : Window) (ceiling : ℕ) (bs : List Block) (v w : View) (p q : P) : Type 0 where
  pub steps : List Step
  pub are : AreSteps costs window ceiling bs steps
  pub view : FoldsTo (Takes ceiling) v steps w
  pub kept : FoldsTo told p steps q

-- the same of one block
abbrev pub HasWalked : {P : Type 0} → (P → Step → P → Type 0) → Costs → Window → ℕ → Block → View → View → P → P → Type 0
HasWalked told costs window ceiling b = HaveWalked told costs window ceiling (b ∷ [])

-- A visit of blocks stopped, since a step couldn't be kept. What keeps them was told of the first ones, which made p some r,
-- and failed at the next, which made it q. The view's share and what it drew are as before.
pub record HaveStopped {P : Type 0} (told : P → Step → P → Type 0) (fails : P → P → Type 0) (costs : Costs) (window : Window) (ceiling : ℕ) (bs : List Block) (v w : View) (p q : P) : Type 0 where
  pub steps : List Step
  pub are : AreFirstSteps costs window ceiling bs steps
  pub kept : (r : P) × FoldsTo told p steps r × fails r q
  pub share : w.share ≡ v.share
  pub drawn : w.drawn ≡ v.drawn

-- the same of one block
abbrev pub HasStopped : {P : Type 0} → (P → Step → P → Type 0) → (P → P → Type 0) → Costs → Window → ℕ → Block → View → View → P → P → Type 0
HasStopped told fails costs window ceiling b = HaveStopped told fails costs window ceiling (b ∷ [])

-- A visit came to a block and doesn't pass it over: the block has a bound, and the key is its key by that bound and not above
-- the limit. The view v became w by the one read, and what keeps the steps was told of it, which made p q.
pub record HasOpened {P : Type 0} (told : P → Step → P → Type 0) (ceiling : ℕ) (b : Block) (bound : Option ℕ) (key : ℕ) (v w : View) (p q : P) : Type 0 where
  pub least : ℕ
  pub seen : ℕ
  pub has : bound ≡ Some least
  pub key_is : key ≡ block_key least b
  pub within : key ≤ limit_at ceiling seen
  pub low : seen ≤ v.floor
  pub view : w ≡ after_limit seen v
  pub kept : told p (record { block = b; bound = bound; seen = seen }) q

-- what keeps steps needn't be told of any, since each leaves it as it is
abbrev pub NeedsNone : {P : Type 0} → (P → Step → P → Type 0) → Type 0
NeedsNone {P} told = (p : P) (s : Step) → told p s p

-- how many spans are shorter
abbrev pub depth : Span → ℕ
depth Year = 3
depth Day = 2
depth Hour = 1
depth Minute = 0
