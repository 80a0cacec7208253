-- Blocks that wait: which can be opened, and how many lines come of them.
use Rattle.std.proofs.Common.{◌≡◌, ℕ, zero, suc, ◌+◌, ◌*◌, ◌<◌, ◌≤◌, Bool, true, false, nat_lt, if◌then◌else◌, List, [], ◌∷◌, ◌++◌, length, refl, sym, ◌∙◌, arith, append-nil}
use Rattle.std.specs.List.{AllByRecursion}
use Rattle.signal_base.specs.declared.window.Window.{Window}
use Rattle.definitions.specs.declared.block.Block.{Block}
use Rattle.definitions.specs.declared.block.Span.{Span}
use Rattle.definitions.specs.declared.block.Span.TheVariants.{Year, Day, Hour, Minute}
use Rattle.definitions.specs.answers.Blocks.{IsBlock, block_from, blocks, children, span_end}
use Rattle.certificate_walks.specs.Spans.{AreOf}
use Rattle.certificate_walks.specs.Waiting.{CanOpen, Waiting, left_most, left_of, most_lines}

-- there are no more blocks than were asked for
few_blocks : (announced : Bool) (second : ℕ) (s : Span) (n lo hi : ℕ) → length (blocks announced second s n lo hi) ≤ n
unfolding blocks
few_blocks announced second s zero lo hi = omega arith
few_blocks announced second s (suc n) lo hi = by_test (few_blocks announced second s n (span_end s lo) hi) (nat_lt lo hi)
  where
    by_test : length (blocks announced second s n (span_end s lo) hi) ≤ n → (t : Bool)
        → length (if t then block_from announced second s lo hi ∷ blocks announced second s n (span_end s lo) hi else []) ≤ suc n
    by_test few true = omega (arith, few)
    by_test few false = omega arith

-- blocks that have both
pub both : (window : Window) (s t : Span) (bs : List Block) → t ≡ s → AllByRecursion (IsBlock window) bs → AllByRecursion (λ b. b.span ≡ t) bs → AreOf window s bs
both window s t [] e blocks spans = tt
both window s t (b ∷ bs) e blocks spans = ((blocks.0, spans.0 ∙ e), both window s t bs e blocks.1 spans.1)

-- where nothing waits, any block can be opened
pub all_can : (w : Waiting) → w.minutes ≡ [] → w.hours ≡ [] → w.days ≡ [] → (s : Span) → CanOpen s w
all_can w m h d Year = (m, h, d)
all_can w m h d Day = (m, h)
all_can w m h d Hour = m
all_can w m h d Minute = tt

-- nothing is left where each list is empty
pub none_left : (w : Waiting) → w.minutes ≡ [] → w.hours ≡ [] → w.days ≡ [] → left_of w ≡ []
none_left w m h d = rw (m, h, d) refl

pub few_days : (b : Block) → b.span ≡ Year → length (children b) ≤ 366
few_days b e = rw e (few_blocks b.announced b.second Day 366 b.lo b.hi)

pub few_hours : (b : Block) → b.span ≡ Day → length (children b) ≤ 24
few_hours b e = rw e (few_blocks b.announced b.second Hour 24 b.lo b.hi)

pub few_minutes : (b : Block) → b.span ≡ Hour → length (children b) ≤ 60
few_minutes b e = rw e (few_blocks b.announced b.second Minute 60 b.lo b.hi)

-- a year is opened, a day, and an hour
pub year_left : (w : Waiting) (ms hs cs kids : List Block) → ms ≡ w.minutes → hs ≡ w.hours → cs ≡ kids → CanOpen Year w → ms ++ (hs ++ cs) ≡ kids ++ left_of w
year_left w ms hs cs kids m h c can = rw (m, h, c, can.0, can.1, can.2) (sym (append-nil kids))

pub day_left : (w : Waiting) (ms cs ds kids : List Block) → ms ≡ w.minutes → cs ≡ kids → ds ≡ w.days → CanOpen Day w → ms ++ (cs ++ ds) ≡ kids ++ left_of w
day_left w ms cs ds kids m c d can = rw (m, c, d, can.0, can.1) refl

pub hour_left : (w : Waiting) (cs hs ds kids : List Block) → cs ≡ kids → hs ≡ w.hours → ds ≡ w.days → CanOpen Hour w → cs ++ (hs ++ ds) ≡ kids ++ left_of w
hour_left w cs hs ds kids c h d can = rw (c, h, d, can) refl

-- and fewer lines come than before
none_long : (bs : List Block) → bs ≡ [] → length bs ≡ 0
none_long bs e = rw e refl

pub year_lines : (w : Waiting) (cs : List Block) → length cs ≤ 366 → CanOpen Year w → length w.minutes + (61 * length w.hours + 1_465 * length cs) < 536_191 + left_most w
year_lines w cs few can = omega (arith, few, none_long w.minutes can.0, none_long w.hours can.1)

pub day_lines : (w : Waiting) (cs : List Block) → length cs ≤ 24 → CanOpen Day w → length w.minutes + (61 * length cs + 1_465 * length w.days) < 1_465 + left_most w
day_lines w cs few can = omega (arith, few, none_long w.minutes can.0, none_long w.hours can.1)

pub hour_lines : (w : Waiting) (cs : List Block) → length cs ≤ 60 → CanOpen Hour w → length cs + (61 * length w.hours + 1_465 * length w.days) < 61 + left_most w
hour_lines w cs few can = omega (arith, few, none_long w.minutes can)

-- a block has a line at least
pub some_lines : (s : Span) → 0 < most_lines s
some_lines Year = omega arith
some_lines Day = omega arith
some_lines Hour = omega arith
some_lines Minute = omega arith
