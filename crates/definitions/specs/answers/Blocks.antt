-- Blocks of sequences that a search treats as one: the items, their children, and the least that each can cost.
use Rattle.std.specs.Prelude.{ℕ, zero, suc, ◌+◌, ◌-◌, ◌*◌, ◌/◌, ◌^◌, ◌≡◌, ◌⊎◌, ◌<◌, ◌≤◌, Bool, true, false, nat_lt, if◌then◌else◌, min, List, [], ◌∷◌, ◌++◌, sum_by, Option, Some, None}
use Rattle.std.specs.List.{range_with_len, flat_map}
use Rattle.signal_base.specs.declared.station.Station.{Station}
use Rattle.signal_base.specs.declared.window.Window.{Window}
use Rattle.signal_base.specs.Mask.{has_bit}
use Rattle.definitions.specs.declared.sequence.Sequence.{Sequence}
use Rattle.definitions.specs.declared.block.Block.{Block}
use Rattle.definitions.specs.declared.block.Span.{Span}
use Rattle.definitions.specs.declared.block.Span.TheVariants.{Year, Day, Hour, Minute}
use Rattle.definitions.specs.time.Calendar.{day_at, is_leap_year, minutes_per_day, minutes_per_hour}
use Rattle.definitions.specs.codes.Allowed.{has_station, stations_of}
use Rattle.definitions.specs.sequences.Walks.{set_at, IsWalkable, IsLegal}
use Rattle.definitions.specs.sequences.Keys.{key_of}
use Rattle.definitions.specs.heard.Costs.{Costs, sum_below, set_cost, sequence_cost}

-- how many days of its year come after the day n
abbrev pub days_left : ℕ → ℕ
days_left n = (if is_leap_year (day_at n).year then 366 else 365) - (day_at n).day_of_year

-- the first minute after the UTC year, day, hour or minute in which t lies
abbrev pub span_end : Span → ℕ → ℕ
span_end Year t = (t / minutes_per_day + days_left (t / minutes_per_day) + 1) * minutes_per_day
span_end Day t = (t / minutes_per_day + 1) * minutes_per_day
span_end Hour t = (t / minutes_per_hour + 1) * minutes_per_hour
span_end Minute t = t + 1

-- the block of a span that begins at lo, cut at hi
abbrev pub block_from : Bool → ℕ → Span → ℕ → ℕ → Block
block_from announced second span lo hi =
    record { announced = announced; second = second; span = span; lo = lo; hi = min (span_end span lo) hi }

-- the blocks of a span from lo up to, and without, hi, in order, at most n
unfoldable pub blocks : Bool → ℕ → Span → ℕ → ℕ → ℕ → List Block
blocks announced second span zero lo hi = []
blocks announced second span (suc n) lo hi =
    if nat_lt lo hi
    then block_from announced second span lo hi ∷ blocks announced second span n (span_end span lo) hi
    else []

-- The items of a window: its years, for each first second, without a leap second and with it. A second 60 comes by
-- a leap second alone.
abbrev pub items : Window → List Block
items window =
    flat_map (λ p. blocks false p Year 100 window.from window.to) (range_with_len 0 60)
    ++ flat_map (λ p. blocks true p Year 100 window.from window.to) (range_with_len 0 61)

-- the next shorter span; a minute has none
abbrev pub shorter : Span → Span
shorter Year = Day
shorter Day = Hour
shorter Hour = Minute
shorter Minute = Minute

-- the children of a block: the days of a year, the hours of a day, the minutes of an hour
abbrev pub children_by : Span → Block → List Block
children_by Year b = blocks b.announced b.second Day 366 b.lo b.hi
children_by Day b = blocks b.announced b.second Hour 24 b.lo b.hi
children_by Hour b = blocks b.announced b.second Minute 60 b.lo b.hi
children_by Minute b = []

abbrev pub children : Block → List Block
children b = children_by b.span b

-- A block of a window: what lies of one year, day, hour or minute in the window's range, from a second on that a
-- minute can have.
pub record IsBlock (window : Window) (b : Block) : Type 0 where
  pub second : b.second < (if b.announced then 61 else 60)
  pub not_empty : b.lo < b.hi
  pub not_before : window.from ≤ b.lo
  pub begins : (t : ℕ) → window.from ≤ t → t < b.lo → span_end b.span t ≤ b.lo
  pub ends : b.hi ≡ min (span_end b.span b.lo) window.to

-- the sequence is one of the block
pub record IsIn (b : Block) (q : Sequence) : Type 0 where
  pub announced : q.announced ≡ b.announced
  pub second : q.second ≡ b.second
  pub not_before : b.lo ≤ q.first
  pub before_end : q.first < b.hi

-- the sequence is in none of some blocks, or in exactly one
abbrev pub IsInNone : List Block → Sequence → Type 0
IsInNone [] q = Unit {0}
IsInNone (b ∷ bs) q = ¬ (IsIn b q) × IsInNone bs q

abbrev pub IsInOne : List Block → Sequence → Type 0
IsInOne [] q = ⊥
IsInOne (b ∷ bs) q = (IsIn b q × IsInNone bs q) ⊎ (¬ (IsIn b q) × IsInOne bs q)

-- the blocks share the minutes from lo up to, and without, hi: each begins where the one before it ends
abbrev pub CoverInOrder : ℕ → ℕ → List Block → Type 0
CoverInOrder lo hi [] = lo ≡ hi
CoverInOrder lo hi (b ∷ bs) = (b.lo ≡ lo) × CoverInOrder b.hi hi bs

-- the first sequence of a block
abbrev pub first_of : Block → Sequence
first_of b = record { first = b.lo; second = b.second; announced = b.announced }

-- some walkable sequence of the block lets a station carry symbol x in slot k
abbrev pub MayCarry : Window → Block → Station → ℕ → ℕ → Type 0
MayCarry window b station k x =
    (q : Sequence) × IsIn b q × IsWalkable window q × (has_bit (set_at station q k) x ≡ true)

-- The union of the sets that the block's walkable sequences allow. A second that isn't scored has all eight bits, so
-- a union with one isn't scored.
pub record IsUnion (window : Window) (b : Block) (station : Station) (k set : ℕ) : Type 0 where
  pub byte : set < 2 ^ 8
  pub each : (x : ℕ) → MayCarry window b station k x → has_bit set x ≡ true
  pub only : (x : ℕ) → has_bit set x ≡ true → MayCarry window b station k x

-- the sum of the costs of these unions, over the stations and the slots
abbrev pub union_cost : Costs → Window → (Station → ℕ → ℕ) → ℕ
union_cost costs window unions =
    sum_by (λ station. sum_below window.seconds (λ k. set_cost station (costs station k) (unions station k)))
    (stations_of window.stations)

-- of a minute: what its sequence costs, where it is legal
abbrev pub IsMinuteBound : Costs → Window → Block → Option ℕ → Type 0
IsMinuteBound costs window b None = ¬ (IsLegal window (first_of b))
IsMinuteBound costs window b (Some n) = IsLegal window (first_of b) × (n ≡ sequence_cost costs window (first_of b))

-- some sequence of the block is walkable
abbrev pub HasWalk : Window → Block → Type 0
HasWalk window b = (q : Sequence) × IsIn b q × IsWalkable window q

-- the number is what the unions cost, one for each station of the window in each slot
pub record IsCostOfUnions (costs : Costs) (window : Window) (b : Block) (n : ℕ) : Type 0 where
  pub unions : Station → ℕ → ℕ
  pub each : (station : Station) (k : ℕ) → has_station window.stations station ≡ true → k < window.seconds
      → IsUnion window b station k (unions station k)
  pub cost : n ≡ union_cost costs window unions

-- of a longer span: what the unions cost, where some sequence is walkable
abbrev pub IsUnionBound : Costs → Window → Block → Option ℕ → Type 0
IsUnionBound costs window b None = ¬ (HasWalk window b)
IsUnionBound costs window b (Some n) = HasWalk window b × IsCostOfUnions costs window b n

abbrev pub IsBoundBy : Span → Costs → Window → Block → Option ℕ → Type 0
IsBoundBy Minute costs window b bound = IsMinuteBound costs window b bound
IsBoundBy span costs window b bound = IsUnionBound costs window b bound

-- the bound of a block, or none
abbrev pub IsBound : Costs → Window → Block → Option ℕ → Type 0
IsBound costs window b bound = IsBoundBy b.span costs window b bound

-- the key of a block with a bound
abbrev pub block_key : ℕ → Block → ℕ
block_key bound b = key_of bound (first_of b)
