-- Visits of blocks: what they offer by what they read, and which sequences that covers.
use Rattle.std.specs.Prelude.{ℕ, ◌≡◌, ◌⊎◌, ◌<◌, nat_le, if◌then◌else◌, min, List, [], ◌∷◌, ◌++◌, filter_map, slice_get, Contains, Option, Some, None}
use Rattle.signal_base.specs.declared.window.Window.{Window}
use Rattle.definitions.specs.declared.block.Block.{Block}
use Rattle.definitions.specs.declared.block.Span.{Span}
use Rattle.definitions.specs.declared.block.Span.TheVariants.{Minute}
use Rattle.definitions.specs.sequences.Keys.{ceiling_key}
use Rattle.definitions.specs.sequences.Walks.{IsLegal}
use Rattle.definitions.specs.heard.Costs.{Costs, sequence_cost}
use Rattle.definitions.specs.answers.Answers.{IsAdmitted}
use Rattle.definitions.specs.answers.Blocks.{children, IsBound, IsIn, block_key}
use Rattle.definitions.specs.answers.FirstTwo.{IsKey}

-- a block is passed over where its key is above this one: the lesser of what its visit read and the ceiling's key
abbrev pub limit_at : ℕ → ℕ → ℕ
limit_at ceiling seen = min seen (ceiling_key ceiling)

-- a minute offers its key, a longer block nothing
abbrev pub offered_by : Span → ℕ → List ℕ
offered_by Minute key = key ∷ []
offered_by span key = []

-- the keys that a block offers under a limit: none where it has no bound or its key is above the limit
abbrev pub offered_under : ℕ → Block → Option ℕ → List ℕ
offered_under limit b None = []
offered_under limit b (Some bound) = if nat_le (block_key bound b) limit then offered_by b.span (block_key bound b) else []

-- the blocks that it opens: its children, and none where it has no bound or its key is above the limit
abbrev pub opened_under : ℕ → Block → Option ℕ → List Block
opened_under limit b None = []
opened_under limit b (Some bound) = if nat_le (block_key bound b) limit then children b else []

-- The visits of some blocks, one after the other: under a ceiling and by these reads they offer these keys, in order.
-- Each block takes the next read. Then come the blocks that it opens, and then those after it.
abbrev pub AreVisits : Costs → Window → ℕ → List Block → List ℕ → List ℕ → Type 0
AreVisits costs window ceiling [] [] keys = keys ≡ []
AreVisits costs window ceiling [] (seen ∷ reads) keys = ⊥
AreVisits costs window ceiling (b ∷ bs) [] keys = ⊥
AreVisits costs window ceiling (b ∷ bs) (seen ∷ reads) keys =
    (bound : Option ℕ) × (others : List ℕ) × IsBound costs window b bound
    × (keys ≡ offered_under (limit_at ceiling seen) b bound ++ others)
    × AreVisits costs window ceiling (opened_under (limit_at ceiling seen) b bound ++ bs) reads others

-- the visit of one block
abbrev pub IsVisit : Costs → Window → ℕ → Block → List ℕ → List ℕ → Type 0
IsVisit costs window ceiling b = AreVisits costs window ceiling (b ∷ [])

-- the key of an admitted sequence of the block
abbrev pub IsBlockKey : Costs → Window → ℕ → Block → ℕ → Type 0
IsBlockKey costs window ceiling b =
    IsKey (λ q. IsIn b q × IsAdmitted (IsLegal window) (sequence_cost costs window) ceiling q) (sequence_cost costs window)

-- each admitted sequence of the block has its key among the offered ones, or a key above the floor
abbrev pub IsCovered : Costs → Window → ℕ → Block → List ℕ → ℕ → Type 0
IsCovered costs window ceiling b keys floor =
    (key : ℕ) → IsBlockKey costs window ceiling b key → Contains keys key ⊎ (floor < key)

-- the items with these numbers, counted from 0, in the order of the numbers; a number beyond the last item has none
abbrev pub items_at : List Block → List ℕ → List Block
items_at items numbers = filter_map (slice_get items) numbers

-- the keys offered are those of the visits, by these reads, of the items with the numbers drawn
abbrev pub AreDriven : Costs → Window → ℕ → List Block → List ℕ → List ℕ → List ℕ → Type 0
AreDriven costs window ceiling items drawn reads keys = AreVisits costs window ceiling (items_at items drawn) reads keys
