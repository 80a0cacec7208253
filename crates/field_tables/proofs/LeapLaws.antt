-- Announced sequences that may meet a leap second: what they cost by their sets, and which are legal.
use Rattle.std.proofs.Common.{◌≡◌, ◌≢◌, ℕ, ◌+◌, ◌/◌, ◌==◌, ◌<◌, ◌≤◌, ◌⊎◌, ◌↔◌, inl, inr, Bool, true, false, ◌&&◌, ◌||◌, if◌then◌else◌, List, length, get_or, slice_index, refl, sym, ap, ◌∙◌, subst, arith}
use Rattle.std.proofs.lemmas.Bool.{cases_lt, or_cases}
use Rattle.std.proofs.lemmas.List.{get_or_default}
use Rattle.signal_base.specs.Mask.{has_bit}
use Rattle.signal_base.specs.declared.station.Station.{Station}
use Rattle.definitions.specs.declared.block.Block.{Block}
use Rattle.definitions.specs.declared.sequence.Sequence.{Sequence}
use Rattle.definitions.specs.time.Calendar.{is_leap_end}
use Rattle.definitions.specs.answers.Blocks.{IsBlock, first_of, span_end}
use Rattle.definitions.specs.heard.Costs.{cost_outside_dut1, least_dut1_cost, lies_in_one_day, set_cost, sum_below}
use Rattle.definitions.specs.heard.Dut1.{has_dut1}
use Rattle.definitions.specs.sequences.Walks.{IsLegal, IsWalkable, ShowsLeap, place_at, set_at, unannounced}
use Rattle.definitions.proofs.CostLaws.{sum_below_same}
use Rattle.symbol_cost.specs.Grid.{cost_at}
use Rattle.leap_unions.specs.declared.walk.LeapWalk.{LeapWalk}
use Rattle.leap_unions.specs.Pieces.{announced_from}
use Rattle.leap_unions.specs.Scope.{Scope}
use Rattle.leap_unions.specs.Walks.{AreTogether, IsLeapWalk, ShowsIn}
use Rattle.leap_unions.proofs.NominalLaws.{reached}
use Rattle.minute_parts.specs.Walks.{later_minutes}
use Rattle.walk_costs.specs.Dates.{IsAdded}
use Rattle.walk_costs.specs.Walks.{AreSmall, PricedParts, ShowsAnnouncement, cost_of, last_minute}
use Rattle.walk_costs.proofs.TotalLaws.{IsTotal, total}
use Rattle.block_costs.specs.Blocks.{unions_cost}
use Rattle.field_tables.specs.Minutes.{no_walks}
use Rattle.field_tables.specs.Sums.{AreSums, Sums}
use Rattle.field_tables.proofs.BlockLaws.{ends_no_later}
use Rattle.field_tables.proofs.MinuteLaws.{legal_by_showing}
use Rattle.field_tables.proofs.SetCostLaws.{wider_sets}
use Rattle.field_tables.proofs.UnionBoundLaws.{short_where}
use Rattle.field_tables.proofs.WalkableLaws.{walks}

long_enough : (b : Bool) → 60 ≤ (if b then 61 else 60)
long_enough true = omega arith
long_enough false = omega arith

-- a walk that tells no value of DUT1 costs what its sets do
module _ (w : PricedParts) (p first : ℕ) (sets : List ℕ) where
  abbrev q : Sequence
  q = announced_from p first

  abbrev n : ℕ
  n = length w.grid.rows

  abbrev pub in_slot : ℕ → ℕ
  in_slot k = set_cost w.grid.station (cost_at w.grid.rows k) (set_at w.grid.station q k)

  pub cost_by_sets : ((k : ℕ) → k < n → slice_index sets k ≡ set_at w.grid.station q k) → (has_dut1 w.grid.station && lies_in_one_day n q) ≡ false
      → unions_cost w.grid (slice_index sets) ≡ cost_of w true p first
  cost_by_sets carried untold =
      sum_below_same n (λ k. set_cost w.grid.station (cost_at w.grid.rows k) (slice_index sets k)) in_slot
      (λ k lt. ap (set_cost w.grid.station (cost_at w.grid.rows k)) (carried k lt))
      ∙ sym (ap (λ (told : Bool). if told then cost_outside_dut1 w.grid.station (cost_at w.grid.rows) n q + least_dut1_cost w.grid.station (cost_at w.grid.rows) n q else sum_below n in_slot) untold)

-- and one that ends before the leap second costs what its sets do and what DUT1 adds
pub cost_by_sets_and_dut1 : (w : PricedParts) → AreSmall w.grid → (p first : ℕ) → p < 60
    → ((t : ℕ) → first ≤ t → t < last_minute w p first → is_leap_end t ≡ false) → (sets : List ℕ)
    → ((k : ℕ) → k < length w.grid.rows → slice_index sets k ≡ set_at w.grid.station (announced_from p first) k) → (added : ℕ)
    → ((last_minute w p first / 1440 == first / 1440) ≡ true → IsAdded w.grid p added)
    → ((last_minute w p first / 1440 == first / 1440) ≡ false → added ≡ 0)
    → IsTotal w true p first (unions_cost w.grid (slice_index sets)) added
cost_by_sets_and_dut1 w small p first second short sets carried added one_day two_days =
    let n = length w.grid.rows in
    let same : unions_cost w.grid (slice_index sets) ≡ sum_below n (in_slot w p first sets) =
    sum_below_same n (λ k. set_cost w.grid.station (cost_at w.grid.rows k) (slice_index sets k)) (in_slot w p first sets)
    (λ k lt. ap (set_cost w.grid.station (cost_at w.grid.rows k)) (carried k lt)) in
    subst (λ x. IsTotal w true p first x added) (sym same) (total w small true p first second (λ t ge lt. short_where true t (short t ge lt)) added one_day two_days)

-- the sets of a walk that was told of
pub sets_of_walk : (w : PricedParts) (scope : Scope) (p first : ℕ) (walk : LeapWalk) → IsLeapWalk scope p first walk → scope.station ≡ w.grid.station
    → scope.seconds ≡ length w.grid.rows
    → (k : ℕ) → k < length w.grid.rows → slice_index walk.sets k ≡ set_at w.grid.station (announced_from p first) k
sets_of_walk w scope p first walk is station seconds k lt =
    is.sets k (omega (arith, lt, seconds)) ∙ ap (λ (st : Station). set_at st (announced_from p first) k) station

-- whether it goes on to the next day
pub next_day_of : (w : PricedParts) (scope : Scope) (p first : ℕ) (walk : LeapWalk) → IsLeapWalk scope p first walk → scope.seconds ≡ length w.grid.rows
    → walk.next_day ≡ true → lies_in_one_day (length w.grid.rows) (announced_from p first) ≡ false
next_day_of w scope p first walk is seconds goes = ap (λ m. lies_in_one_day m (announced_from p first)) (sym seconds) ∙ is.next_day goes

-- whether it shows the announcement
pub shows_of_walk : (w : PricedParts) (scope : Scope) (p first : ℕ) (shows : Bool) → (shows ≡ true ↔ ShowsIn scope p first) → scope.station ≡ w.grid.station
    → scope.seconds ≡ length w.grid.rows → (shows ≡ true ↔ ShowsAnnouncement w (announced_from p first))
shows_of_walk w scope p first shows is station seconds =
    let q = announced_from p first in (
      λ e. (let s = is.0 e in
          (s.0, omega (arith, s.1, seconds), subst (λ (st : Station). set_at st q s.0 ≢ set_at st (unannounced q) s.0) station s.2)),
      λ s. is.1 (s.0, omega (arith, s.1, seconds), subst (λ (st : Station). set_at st q s.0 ≢ set_at st (unannounced q) s.0) (sym station) s.2),
    )

-- what walks carry together costs no more than each
pub leap_floor_is : (w : PricedParts) (scope : Scope) (p lo hi cost : ℕ) (sets : List ℕ) → AreTogether scope p lo hi sets → scope.station ≡ w.grid.station
    → scope.seconds ≡ length w.grid.rows → p < 60 → cost ≡ unions_cost w.grid (slice_index sets)
    → (t0 : ℕ) → lo ≤ t0 → t0 < hi → cost ≤ cost_of w true p t0
leap_floor_is w scope p lo hi cost sets are station seconds second price t0 ge lt =
    let q = announced_from p t0 in
    let wider = wider_sets w.grid.station (cost_at w.grid.rows) (length w.grid.rows) q (omega (arith, second, long_enough (is_leap_end t0))) (slice_index sets)
    (λ k less. are.byte k (omega (arith, less, seconds)))
    (λ k less x has. are.each t0 k x ge lt (omega (arith, less, seconds)) (subst (λ (s : Station). has_bit (set_at s q k) x ≡ true) (sym station) has)) in
    omega (arith, wider, price)

-- the first sequence of an announced block
pub first_is : (b : Block) → b.announced ≡ true → announced_from b.second b.lo ≡ first_of b
first_is b announced = ap (λ a. record { first = b.lo; second = b.second; announced = a }) (sym announced)

module _ (sums : Sums) (are : AreSums sums) (b : Block) (block : IsBlock sums.window b) (announced : b.announced ≡ true) (second : b.second < 60)
    (early : b.lo + later_minutes sums.window.seconds b.second < sums.end) where
  before_to : b.lo < sums.window.to
  before_to = let within = ends_no_later b.hi (span_end b.span b.lo) sums.window.to block.ends in omega (arith, within.1, block.not_empty)

  walk : IsWalkable sums.window (first_of b)
  walk = subst (IsWalkable sums.window) (first_is b announced) (record {
    not_before = block.not_before;
    before_end = before_to;
    second = omega (arith, second, long_enough (is_leap_end b.lo));
    encoded = λ k lt. (are.end (place_at (announced_from b.second b.lo) k).0).0 (omega (arith, reached b.second b.lo k, lt, early));
  })

  -- such a sequence is legal where it shows the announcement
  pub legal_near_leap : IsLegal sums.window (first_of b) ↔ ShowsLeap sums.window (first_of b)
  legal_near_leap = legal_by_showing sums.window (first_of b) announced second walk (walks sums are (unannounced (first_of b)) refl second block.not_before before_to early)

-- a flag for some stations and one more
pub flag_of : (a b : Bool) → (a || b) ≡ true → (a ≡ true) ⊎ (b ≡ true)
flag_of a b is = or_cases a b is

pub flag_from : (a b : Bool) → (a ≡ true) ⊎ (b ≡ true) → (a || b) ≡ true
flag_from true b is = refl
flag_from false b (inl is) = absurd cc
flag_from false b (inr is) = is

-- one of the first stations shows it
abbrev pub SomeShows : Sums → Sequence → ℕ → Type 0
SomeShows sums q i = (j : ℕ) × (j < i) × ShowsAnnouncement (get_or sums.stations j no_walks) q

-- one station more
pub shows_more : (sums : Sums) (q : Sequence) (i : ℕ) (w : PricedParts) (old here : Bool) → i < length sums.stations → w ≡ get_or sums.stations i w
    → (old ≡ true ↔ SomeShows sums q i) → (here ≡ true ↔ ShowsAnnouncement w q) → ((old || here) ≡ true ↔ SomeShows sums q (i + 1))
shows_more sums q i w old here lt is before now = (
  λ either. elim (flag_of old here either) [
    | inl some ↦ (let s = before.0 some in (s.0, omega (arith, s.1), s.2))
    | inr this ↦ (i, omega arith, subst (λ (v : PricedParts). ShowsAnnouncement v q) at (now.0 this))
  ],
  λ some. flag_from old here (elim (cases_lt some.0 i) [
    | inl earlier ↦ inl (before.1 (some.0, earlier, some.2))
    | inr last ↦ (
        let same : some.0 ≡ i = omega (arith, last, some.1) in
        inr (now.1 (subst (λ (v : PricedParts). ShowsAnnouncement v q) (sym at) (subst (λ k. ShowsAnnouncement (get_or sums.stations k no_walks) q) same some.2))))
  ]),
)
  where
    at : w ≡ get_or sums.stations i no_walks
    at = is ∙ get_or_default sums.stations i w no_walks lt
