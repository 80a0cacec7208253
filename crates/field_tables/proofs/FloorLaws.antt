-- Floors: of two pieces together, by costs that agree, and of the sequences of a block.
use Rattle.std.proofs.Common.{◌≡◌, ℕ, ◌+◌, ◌<◌, ◌≤◌, min, inl, inr, List, Option, Some, None, true, refl, sym, ◌∙◌, subst, arith}
use Rattle.std.proofs.Math.Nat.{min-le_left, min-le_right}
use Rattle.std.proofs.lemmas.Bool.{cases_lt}
use Rattle.signal_base.specs.declared.window.Window.{Window}
use Rattle.definitions.specs.declared.block.Block.{Block}
use Rattle.definitions.specs.declared.sequence.Sequence.{Sequence}
use Rattle.definitions.specs.answers.Blocks.{IsIn}
use Rattle.definitions.specs.heard.Costs.{Costs, sequence_cost}
use Rattle.definitions.proofs.KeyLaws.{same_sequence}
use Rattle.plain_costs.specs.Agreement.{AgreeOn}
use Rattle.plain_costs.specs.Grids.{grid_costs}
use Rattle.plain_costs.proofs.AgreementLaws.{sequence_same}
use Rattle.symbol_cost.specs.Grid.{Grid}
use Rattle.walk_costs.specs.Walks.{PricedParts}
use Rattle.field_tables.specs.Floors.{CostAtLeast, IsFloor, lesser, piece}
use Rattle.field_tables.specs.Minutes.{sequence_at}
use Rattle.field_tables.specs.Quiet.{NoneAnnounced}
use Rattle.field_tables.specs.Scored.{Scored, costs_of}
use Rattle.field_tables.specs.Sums.{AreTables, Sums, costs_by}

-- the lesser of the floors of two neighbouring pieces is one of both together
pub joined : (w : PricedParts) (b : Block) (lo t hi n m least : ℕ) → least ≡ min n m → CostAtLeast w b lo t n → CostAtLeast w b t hi m
    → CostAtLeast w b lo hi least
joined w b lo t hi n m least is front rest = λ t0 ge lt. elim (cases_lt t0 t) [
  | inl earlier ↦ (let le = front t0 ge earlier in omega (arith, is, min-le_left n m, le))
  | inr later ↦ (let le = rest t0 later lt in omega (arith, is, min-le_right n m, le))
]

-- a sequence of a block is that of its first minute
pub at_first : (b : Block) (q : Sequence) → IsIn b q → sequence_at b q.first ≡ q
at_first b q inside = same_sequence (sequence_at b q.first) q refl (sym inside.second) (sym inside.announced)

-- a floor by costs that agree
pub floor_same : (window : Window) (costs others : Costs) (b : Block) (floor : Option ℕ) → AgreeOn window costs others → IsFloor costs window b floor
    → IsFloor others window b floor
floor_same window costs others b None agree none = none
floor_same window costs others b (Some n) agree is = λ q inside legal.
    subst (λ cost. n ≤ cost) (sequence_same window costs others q agree) (is q inside legal)

first_one : (b : Block) (t : ℕ) (q : Sequence) → IsIn (piece b t (t + 1)) q → sequence_at b t ≡ q
first_one b t q inside = same_sequence (sequence_at b t) q (omega (arith, inside.not_before, inside.before_end)) (sym inside.second) (sym inside.announced)

-- the lesser of the floors of two neighbouring pieces is one of both together
pub joined_floors : (costs : Costs) (window : Window) (b : Block) (lo t hi : ℕ) (one other : Option ℕ) → IsFloor costs window (piece b lo t) one
    → IsFloor costs window (piece b t hi) other → IsFloor costs window (piece b lo hi) (lesser one other)
joined_floors costs window b lo t hi one other front rest = by_floors one other front rest
  where
    first : (q : Sequence) → IsIn (piece b lo hi) q → q.first < t → IsIn (piece b lo t) q
    first q inside lt = record { announced = inside.announced; second = inside.second; not_before = inside.not_before; before_end = lt }

    later : (q : Sequence) → IsIn (piece b lo hi) q → t ≤ q.first → IsIn (piece b t hi) q
    later q inside le = record { announced = inside.announced; second = inside.second; not_before = le; before_end = inside.before_end }

    by_floors : (one other : Option ℕ) → IsFloor costs window (piece b lo t) one → IsFloor costs window (piece b t hi) other → IsFloor costs window (piece b lo hi) (lesser one other)
    by_floors None None front rest = λ q inside legal. elim (cases_lt q.first t) [
      | inl lt ↦ front q (first q inside lt) legal
      | inr le ↦ rest q (later q inside le) legal
    ]
    by_floors None (Some m) front rest = λ q inside legal. elim (cases_lt q.first t) [
      | inl lt ↦ absurd (front q (first q inside lt) legal)
      | inr le ↦ rest q (later q inside le) legal
    ]
    by_floors (Some n) None front rest = λ q inside legal. elim (cases_lt q.first t) [
      | inl lt ↦ front q (first q inside lt) legal
      | inr le ↦ absurd (rest q (later q inside le) legal)
    ]
    by_floors (Some n) (Some m) front rest = λ q inside legal. elim (cases_lt q.first t) [
      | inl lt ↦ (let less = front q (first q inside lt) legal in omega (arith, less, min-le_left n m))
      | inr le ↦ (let less = rest q (later q inside le) legal in omega (arith, less, min-le_right n m))
    ]

-- 0 is a floor of any block
pub zero_floor : (costs : Costs) (window : Window) (b : Block) → IsFloor costs window b (Some 0)
zero_floor costs window b = λ q inside legal. omega arith

-- what the sequence of a minute costs is a floor of it
pub floor_of_cost : (costs : Costs) (window : Window) (b : Block) (t n : ℕ) → n ≡ sequence_cost costs window (sequence_at b t)
    → IsFloor costs window (piece b t (t + 1)) (Some n)
floor_of_cost costs window b t n is = λ q inside legal.
    subst (λ (x : Sequence). n ≤ sequence_cost costs window x) (first_one b t q inside) (omega (arith, is))

-- of all minutes of a block
pub whole_floor : (costs : Costs) (window : Window) (b : Block) (floor : Option ℕ) → IsFloor costs window (piece b b.lo b.hi) floor → IsFloor costs window b floor
whole_floor costs window b None is = λ q inside legal. is q (whole q inside) legal
  where
    whole : (q : Sequence) → IsIn b q → IsIn (piece b b.lo b.hi) q
    whole q inside = record { announced = inside.announced; second = inside.second; not_before = inside.not_before; before_end = inside.before_end }
whole_floor costs window b (Some n) is = λ q inside legal. is q (whole q inside) legal
  where
    whole : (q : Sequence) → IsIn b q → IsIn (piece b b.lo b.hi) q
    whole q inside = record { announced = inside.announced; second = inside.second; not_before = inside.not_before; before_end = inside.before_end }

-- any number is one of no minutes
pub empty_floor : (costs : Costs) (window : Window) (b : Block) (t n : ℕ) → IsFloor costs window (piece b t t) (Some n)
empty_floor costs window b t n = λ q inside legal. absurd (omega (arith, inside.not_before, inside.before_end))

-- no floor is needed of no minutes
pub none_of_none : (costs : Costs) (window : Window) (b : Block) (t : ℕ) → IsFloor costs window (piece b t t) None
none_of_none costs window b t = λ q inside legal. absurd (omega (arith, inside.not_before, inside.before_end))

-- nor of an announced block's minutes on quiet days, so that a floor of what comes before them is one with them
pub on_to : (costs : Costs) (window : Window) (b : Block) (lo t hi : ℕ) (floor : Option ℕ) → b.announced ≡ true → IsFloor costs window (piece b lo t) floor
    → NoneAnnounced window t hi → IsFloor costs window (piece b lo hi) floor
on_to costs window b lo t hi floor announced front quiet =
    subst (λ (o : Option ℕ). IsFloor costs window (piece b lo hi) o) (same floor)
    (joined_floors costs window b lo t hi floor None front (λ q inside legal. quiet q (inside.announced ∙ announced) inside.not_before inside.before_end legal))
  where
    same : (floor : Option ℕ) → lesser floor None ≡ floor
    same None = refl
    same (Some n) = refl

-- a floor by the sums of tables is one by their grids
pub floor_of_tables : (window : Window) (grids : List Grid) (sums : Sums) (scored : Scored) → AreTables window grids sums
    → record { window = window; grids = grids } ≡ scored → (b : Block) (floor : Option ℕ) → IsFloor (costs_by sums) sums.window b floor
    → IsFloor (costs_of scored) scored.window b floor
floor_of_tables window grids sums scored tables is b floor found =
    subst (λ (s : Scored). IsFloor (costs_of s) s.window b floor) is
    (floor_same window (costs_by sums) (grid_costs grids) b floor tables.agree
    (subst (λ (x : Window). IsFloor (costs_by sums) x b floor) tables.same found))

-- what no sequence of an announced block costs less than that begins in some minutes
pub floor_by_minutes : (costs : Costs) (window : Window) (b : Block) (lo hi n : ℕ)
    → ((t0 : ℕ) → lo ≤ t0 → t0 < hi → n ≤ sequence_cost costs window (sequence_at b t0)) → IsFloor costs window (piece b lo hi) (Some n)
floor_by_minutes costs window b lo hi n less = λ q inside legal.
    subst (λ (x : Sequence). n ≤ sequence_cost costs window x)
    (same_sequence (sequence_at b q.first) q refl (sym inside.second) (sym inside.announced)) (less q.first inside.not_before inside.before_end)
