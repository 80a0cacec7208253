-- What sequences cost all stations of a window at the least, by what the times of day cost all of them together and the dates each.
use Rattle.std.proofs.Common.{◌≡◌, ℕ, ◌+◌, ◌-◌, ◌*◌, ◌%◌, ◌<◌, ◌≤◌, inl, inr, min, max, Bool, List, [], length, get_or, take, sum_by, refl, sym, ap, ◌∙◌, subst, arith}
use Rattle.std.proofs.Math.Nat.{min-le_left, min-le_right}
use Rattle.std.proofs.lemmas.Bool.{cases_lt}
use Rattle.std.proofs.lemmas.List.{take_all}
use Rattle.signal_base.specs.declared.station.Station.{Station}
use Rattle.definitions.specs.declared.block.Block.{Block}
use Rattle.definitions.specs.heard.Costs.{sequence_cost, station_cost}
use Rattle.symbol_cost.specs.Grid.{Grid, cost_at}
use Rattle.minute_parts.specs.Unions.{AreRegular}
use Rattle.minute_parts.specs.Walks.{reach}
use Rattle.walk_costs.specs.declared.apart.DateFloor.{DateFloor}
use Rattle.walk_costs.specs.Apart.{IsDateFloor, time_cost}
use Rattle.walk_costs.specs.Dates.{minutes_to_call}
use Rattle.walk_costs.specs.Walks.{PricedParts, cost_of}
use Rattle.field_tables.specs.declared.seasons.Season.{Season}
use Rattle.field_tables.specs.Floors.{AllCostAtLeast}
use Rattle.field_tables.specs.Minutes.{sequence_at}
use Rattle.field_tables.specs.Seasons.{IsSeason, LieIn, last_shift, times_together}
use Rattle.field_tables.specs.Sums.{AreSums, Sums, costs_by, grids_of}
use Rattle.field_tables.proofs.SeasonLaws.{of_day, times_more, times_none, turned}
use Rattle.field_tables.proofs.SumLaws.{next_less, slots, whole}

-- the minutes of some of a block's walks are regular too
pub regular_within : (announced : Bool) (lo hi from to later end : ℕ) → lo ≤ from → to ≤ hi → AreRegular announced lo (hi + later) end
    → AreRegular announced from (to + later) end
regular_within announced lo hi from to later end begun within are = record {
  early = omega (arith, are.early, within);
  short = λ t ge lt. are.short t (omega (arith, ge, begun)) (omega (arith, lt, within));
}

-- minutes lie in the day
pub in_whole_day : (later from to : ℕ) → LieIn later 26 from to
in_whole_day later from to = λ t ge lt. (omega arith, omega arith)

-- and those before its end from which walks go on to the next in the last ones
pub in_last : (later day from to : ℕ) → later ≤ 20 → (day + 1) * 1440 ≤ from + later → to ≤ (day + 1) * 1440 → LieIn later 24 from to
in_last later day from to few late within = λ t ge lt.
    let of : t % 1440 + day * 1440 ≡ t = omega (arith, ge, lt, late, within, few) in
    (omega (arith, of, ge, late), omega (arith, of, lt, within))

-- what neither of two neighbouring pieces costs less than
pub both_pieces : (cost : ℕ → ℕ) (lo stay hi end from most rest least : ℕ) → end ≡ min hi stay → from ≡ max lo stay → least ≡ min most rest
    → ((t : ℕ) → lo ≤ t → t < end → most ≤ cost t) → ((t : ℕ) → from ≤ t → t < hi → rest ≤ cost t)
    → (t : ℕ) → lo ≤ t → t < hi → least ≤ cost t
both_pieces cost lo stay hi end from most rest least ends begins is front back t ge lt = elim (cases_lt t stay) [
  | inl early ↦ (
      let inside : t < end = omega (arith, ends, early, lt) in
      omega (arith, is, min-le_left most rest, front t ge inside))
  | inr late ↦ (
      let inside : from ≤ t = omega (arith, begins, late, ge) in
      omega (arith, is, min-le_right most rest, back t inside lt))
]

-- what the time of day and the dates cost a station at the least, whose local time is so far ahead
abbrev apart : PricedParts → ℕ → DateFloor → ℕ → ℕ → ℕ
apart w p dates shift t0 =
    time_cost w p ((t0 + shift) % 1440) + dates.kept + get_or dates.given (minutes_to_call ((t0 + shift) % 1440)) 0

-- The times of day of the first i stations, what their dates cost at the least, and, of the last of them, in the seconds that are given
-- up for the call sign: no more than what a sequence of these minutes costs the stations.
pub record IsSumTo (sums : Sums) (shifts : List ℕ) (b : Block) (from to i kept : ℕ) (given : List ℕ) : Type 0 where
  pub less : (t0 : ℕ) → from ≤ t0 → t0 < to
      → times_together (take i sums.stations) shifts b.second t0 + kept + get_or given (minutes_to_call ((t0 + get_or shifts (i - 1) 0) % 1440)) 0
      ≤ sum_by (λ (g : Grid). station_cost g.station (cost_at g.rows) sums.window.seconds (sequence_at b t0)) (take i (grids_of sums.stations))

module _ (sums : Sums) (are : AreSums sums) (shifts : List ℕ) (as_many : length shifts ≡ length sums.stations) (b : Block) (from to : ℕ) where
  -- of no station
  pub no_sum : (given : List ℕ) → ((m : ℕ) → m < 30 → get_or given m 0 ≡ 0) → IsSumTo sums shifts b from to 0 0 given
  no_sum given none = record {
    less = λ t0 ge lt.
        let call = none (minutes_to_call ((t0 + get_or shifts (0 - 1) 0) % 1440)) (omega arith) in
        omega (arith, times_none sums.stations shifts b.second t0, call);
  }

  -- with one more
  pub one_more_date : (i : ℕ) (w : PricedParts) (lt : i < length sums.stations) (is : w ≡ get_or sums.stations i w) (dates : DateFloor) (kept more : ℕ) (given : List ℕ)
      → dates.shift ≡ get_or shifts i 0 → more ≤ kept + dates.kept → IsDateFloor w b.announced b.second from to dates
      → IsSumTo sums shifts b from to i kept given → IsSumTo sums shifts b from to (i + 1) more dates.given
  one_more_date i w lt is dates kept more given shift sum floor before = record {
    less = λ t0 ge early.
        let q = sequence_at b t0 in
        let within : i < length shifts = omega (arith, lt, as_many) in
        let times = times_more sums.stations shifts b.second t0 i w lt within is in
        let by_shift = subst (λ s. apart w b.second dates s t0 ≤ cost_of w b.announced b.second t0) shift (floor t0 ge early) in
        let here = subst (λ n. apart w b.second dates (get_or shifts i 0) t0 ≤ station_cost w.grid.station (cost_at w.grid.rows) n q)
        (slots sums are i w lt is) by_shift in
        let same : i ≡ (i + 1) - 1 = omega arith in
        let call = ap (λ j. get_or dates.given (minutes_to_call ((t0 + get_or shifts j 0) % 1440)) 0) same in
        let so_far = before.less t0 ge early in
        let all = next_less sums are i w lt is (λ (g : Grid). station_cost g.station (cost_at g.rows) sums.window.seconds q)
        (times_together (take i sums.stations) shifts b.second t0 + kept) (apart w b.second dates (get_or shifts i 0) t0) (omega (arith, so_far)) here in
        omega (arith, times, call, all, sum);
  }

  -- that of all of them is one of what a sequence costs
  pub all_sums : (i kept : ℕ) (given : List ℕ) → i ≡ length sums.stations → IsSumTo sums shifts b from to i kept given → (t0 : ℕ) → from ≤ t0 → t0 < to
      → times_together sums.stations shifts b.second t0 + kept + get_or given (minutes_to_call ((t0 + last_shift shifts) % 1440)) 0
      ≤ sequence_cost (costs_by sums) sums.window (sequence_at b t0)
  all_sums i kept given past sum t0 ge lt =
      let cost = λ (station : Station) (costs : ℕ → ℕ → ℕ). station_cost station costs sums.window.seconds (sequence_at b t0) in
      let total = whole sums are cost i (sum_by (λ (g : Grid). cost g.station (cost_at g.rows)) (take i (grids_of sums.stations))) (omega (arith, past)) refl in
      let every = ap (λ (ws : List PricedParts). times_together ws shifts b.second t0) (take_all i sums.stations (omega (arith, past))) in
      let last = ap (λ j. get_or given (minutes_to_call ((t0 + get_or shifts (j - 1) 0) % 1440)) 0) (past ∙ sym as_many) in
      subst (λ n. times_together sums.stations shifts b.second t0 + kept + get_or given (minutes_to_call ((t0 + last_shift shifts) % 1440)) 0 ≤ n) total
      (omega (arith, sum.less t0 ge lt, every, last))

-- so the row of a piece of a day, with the dates, has what no sequence of the piece costs less than
pub season_floor : (sums : Sums) → AreSums sums → (season : Season) → IsSeason sums.stations sums.window.seconds season → (b : Block) (from to piece i kept n : ℕ) (given row : List ℕ)
    → b.second < 60 → piece < 27 → LieIn (reach sums.window b) piece from to → i ≡ length sums.stations
    → IsSumTo sums season.shifts.items b from to i kept given → row ≡ get_or season.costs.items (b.second * 27 + piece) []
    → ((m : ℕ) → m < 30 → n ≤ kept + (get_or row m 0 + get_or given m 0)) → AllCostAtLeast sums b from to n
season_floor sums are season is b from to piece i kept n given row second few lies past sum here less t0 ge lt =
    let ss = season.shifts.items in
    let v = t0 % 1440 in
    let m = minutes_to_call ((t0 + last_shift ss) % 1440) in
    let inside = lies t0 ge lt in
    let least = is.rows.each b.second piece second few v inside.0 inside.1 in
    let call = ap (λ u. get_or row (minutes_to_call u) 0) (turned t0 (last_shift ss)) in
    let own = ap (λ (xs : List ℕ). get_or xs (minutes_to_call ((v + last_shift ss) % 1440)) 0) here in
    let total = all_sums sums are ss is.shifts b from to i kept given past sum t0 ge lt in
    let day = of_day sums.stations ss b.second t0 in
    let some = less m (omega arith) in
    omega (arith, some, call, own, least, day, total)
