use Rattle.std.proofs.Common.{◌≡◌, ℕ, ◌+◌, ◌-◌, ◌*◌, ◌%◌, ◌<◌, ◌≤◌, ◌⊎◌, Bool, true, false, nat_lt, if◌then◌else◌, List, length, get_or, refl, ap, inl, inr, subst, arith}
use Rattle.std.proofs.Math.Nat.{min-le_left, min-le_right}
use Rattle.signal_base.specs.declared.station.Station.{Station}
use Rattle.symbol_cost.specs.Grid.{cost_at}
use Rattle.minute_parts.specs.Parts.{PartTable, part_where}
use Rattle.slot_columns.specs.Parts.{split_cost}
use Rattle.walk_costs.specs.declared.least.LeastTable.{LeastTable}
use Rattle.walk_costs.specs.Dates.{part_cost}
use Rattle.walk_costs.specs.Near.{IsAlike, StaysNear}
use Rattle.minute_parts.specs.Runs.{end_of_run, run_at}
use Rattle.walk_costs.specs.Crossings.{IsAcross, run_across}
use Rattle.walk_costs.specs.Leasts.{AreLeast, least_at, place_of_run}
use Rattle.walk_costs.specs.Walks.{ArePriced, IsRegularIn, MayAdd, PricedParts, cost_of}
use Rattle.walk_costs.proofs.CrossingLaws.{begun, front, front_few, two_runs}
use Rattle.walk_costs.proofs.FloorLaws.{no_more}
use Rattle.walk_costs.proofs.NeighbourLaws.{HoldDate, floor, floor_by}
use Rattle.walk_costs.proofs.SpanLaws.{chosen, hold_chosen, of_either}
use Rattle.walk_costs.proofs.WalkLaws.{one_run}
use Rattle.walk_costs.proofs.walks.StationWalks.least_alike.Goals as goal
use Rattle.walk_costs.proofs.walks.StationWalks.least_alike.Goals.{After-min-floor}

priced : (c : After-min-floor) → ArePriced c.args.self.now.parts c.args.self.now.grid c.self.inside.walks c.self.inside.added
priced c = subst (λ (v : PricedParts). ArePriced v.parts v.grid c.self.inside.walks c.self.inside.added) c.self.view_is c.self.invariant.priced

inside : (c : After-min-floor) → AreLeast c.args.self.now.parts c.args.self.now.grid false c.self.inside.least.inside
inside c = subst (λ (v : PricedParts). AreLeast v.parts v.grid false c.self.inside.least.inside) c.self.view_is c.self.invariant.inside

across : (c : After-min-floor) → AreLeast c.args.self.now.parts c.args.self.now.grid true c.self.inside.least.across
across c = subst (λ (v : PricedParts). AreLeast v.parts v.grid true c.self.inside.least.across) c.self.view_is c.self.invariant.across

-- the runs are like the first one
alike : (c : After-min-floor) (r : ℕ) → c.args.run ≤ r → r < c.alike_until-last.result
    → IsAlike c.args.self.now.parts c.self.inside.least c.args.costs.now c.args.run r
alike c r ge lt =
    subst (λ (v : PricedParts). IsAlike v.parts c.self.inside.least c.args.costs.now c.args.run r) c.self.view_is
    (subst (λ (parts : PartTable). IsAlike parts c.self.inside.least c.args.costs.now c.args.run r) c.parts.ensures (c.alike_until-last.ensures.alike r ge lt))

-- walks of one kind cost the same at the least
same_least : (table : LeastTable) (p i r : ℕ)
    → get_or table.places.items (place_of_run false r) 0 ≡ get_or table.places.items (place_of_run false i) 0 → least_at table false p r ≡ least_at table false p i
same_least table p i r same = ap (λ k. get_or table.costs.items (p * table.kinds + k) 0) same

none_added : (w : PricedParts) (p t0 : ℕ) → MayAdd w p t0 0
none_added w p t0 = record { one_day = λ same. inl refl; two_days = λ other. refl }

-- a walk minute lies in the run or in the next
in_either : (i : ℕ) (first : Bool) → ((if first then i else i + 1) ≡ i) ⊎ ((if first then i else i + 1) ≡ i + 1)
in_either i true = inl refl
in_either i false = inr refl

-- and the one or the other part holds its date
in_turn : (station : Station) (date : ℕ → List ℕ) (i : ℕ) (one other : List ℕ) (first : Bool) → HoldDate station (date i) one
    → HoldDate station (date (i + 1)) other → HoldDate station (date (if first then i else i + 1)) (if first then one else other)
in_turn station date i one other true holds holds_next = holds
in_turn station date i one other false holds holds_next = holds_next

-- a walk that lies in a run like the first one costs no less
staying : (c : After-min-floor) (i t0 : ℕ) → IsAlike c.args.self.now.parts c.self.inside.least c.args.costs.now c.args.run i
    → IsRegularIn c.args.self.now false c.args.costs.now.second t0 i
    → c.min-floor.result ≤ cost_of c.args.self.now false c.args.costs.now.second t0
staying c i t0 like regular =
    let w = c.args.self.now in
    let own = c.self.inside in
    let costs = c.requires.costs in
    let p = c.args.costs.now.second in
    let is_run = regular.begins.is_run in
    let shift : ℕ = (run_at w.parts.runs i).shift in
    let u : ℕ = (t0 + shift) % 1440 in
    let from : costs.span.from ≤ i = omega (arith, like.from, costs.from) in
    let to : i < costs.span.to = omega (arith, like.to, costs.to) in
    let sets = chosen w.parts w.grid.station costs.span i costs.holds from to in
    let held = hold_chosen w.parts w.grid.station costs.span i costs.holds from to in
    let found = floor w own.walks own.added (priced c) false p i i regular.second is_run is_run sets (held, held) t0 shift (λ m. i)
    (one_run w own.walks own.added (priced c) false p t0 i regular) (λ m. inl refl) 0 (none_added w p t0) in
    omega (
      arith,
      costs.cost.floor sets (of_either w.parts w.grid.station costs.span i costs.holds from to),
      c.at-inside.ensures,
      same_least own.least.inside p c.args.run i like.inside,
      c.saturating_add-staying.ensures,
      min-le_left (c.args.costs.now.cost + c.at-inside.result) 4_294_967_295,
      c.min.ensures,
      c.min-floor.ensures,
      min-le_left c.min.result c.most_cost.result,
      min-le_left c.saturating_add-staying.result c.saturating_add-going_on.result,
      no_more w own.walks own.added (priced c) false false p i regular.second is_run is_run own.least.inside (inside c) (part_cost w.grid p sets) u (omega arith)
          (1439 - u, omega arith, omega arith),
      found.0,
    )

-- nor does one that goes on to the next
leaving : (c : After-min-floor) (i t0 : ℕ) → IsAlike c.args.self.now.parts c.self.inside.least c.args.costs.now c.args.run i
    → IsAcross c.args.self.now false c.args.costs.now.second t0 i
    → c.min-floor.result ≤ cost_of c.args.self.now false c.args.costs.now.second t0
leaving c i t0 like goes_on =
    let w = c.args.self.now in
    let own = c.self.inside in
    let costs = c.requires.costs in
    let p = c.args.costs.now.second in
    let is_run = goes_on.begins.is_run in
    let is_next = goes_on.ends.is_run in
    let shift : ℕ = (run_at w.parts.runs i).shift in
    let end : ℕ = end_of_run w.parts.runs w.parts.end i in
    let u : ℕ = (t0 + shift) % 1440 in
    let before = begun w own.walks own.added (priced c) false p t0 i (end_of_run w.parts.runs w.parts.end i) refl goes_on in
    let few = front_few w own.walks own.added (priced c) false p t0 i (end_of_run w.parts.runs w.parts.end i) refl goes_on in
    let b = front w own.walks own.added (priced c) false p t0 i (end_of_run w.parts.runs w.parts.end i) refl goes_on in
    let from : costs.span.from ≤ i = omega (arith, like.from, costs.from) in
    let from_next : costs.span.from ≤ i + 1 = omega (arith, from) in
    let to : i < costs.span.to = omega (arith, like.to, costs.to) in
    let to_next : i + 1 < costs.span.to = omega (arith, like.to, costs.to) in
    let one = chosen w.parts w.grid.station costs.span i costs.holds from to in
    let other = chosen w.parts w.grid.station costs.span (i + 1) costs.holds from_next to_next in
    let found = floor_by w own.walks own.added (priced c) false p i (i + 1) goes_on.second is_run is_next (λ m. if nat_lt m b then one else other) t0 shift
    (run_across i b) (two_runs w own.walks own.added (priced c) false p t0 i (end_of_run w.parts.runs w.parts.end i) refl goes_on)
    (λ m. in_either i (nat_lt m b))
    (λ m. in_turn w.grid.station (λ r. part_where false (run_at w.parts.runs r)) i one other (nat_lt m b)
    (hold_chosen w.parts w.grid.station costs.span i costs.holds from to) (hold_chosen w.parts w.grid.station costs.span (i + 1) costs.holds from_next to_next))
    0 (none_added w p t0) in
    omega (
      arith,
      costs.across.floor b one other (omega (arith, before)) (omega (arith, before, few, (priced c).short, goes_on.second))
          (of_either w.parts w.grid.station costs.span i costs.holds from to) (of_either w.parts w.grid.station costs.span (i + 1) costs.holds from_next to_next),
      c.at-across.ensures,
      same_least own.least.across p c.args.run i like.across,
      c.saturating_add-going_on.ensures,
      min-le_left (c.args.costs.now.across + c.at-across.result) 4_294_967_295,
      c.min.ensures,
      c.min-floor.ensures,
      min-le_left c.min.result c.most_cost.result,
      min-le_right c.saturating_add-staying.result c.saturating_add-going_on.result,
      no_more w own.walks own.added (priced c) true false p i goes_on.second is_run is_next own.least.across (across c)
          (split_cost w.grid.station (cost_at w.grid.rows) (length w.grid.rows) p b one other) u (omega arith)
          (end - 1 - t0, omega (arith, before, few), omega (arith, before, few, (priced c).short, goes_on.second)),
      found.0,
    )

-- none of the walks costs less
each : (c : After-min-floor) (i t0 : ℕ) → IsAlike c.args.self.now.parts c.self.inside.least c.args.costs.now c.args.run i
    → StaysNear c.args.self.now c.args.costs.now.second t0 i → c.min-floor.result ≤ cost_of c.args.self.now false c.args.costs.now.second t0
each c i t0 like (inl regular) = staying c i t0 like regular
each c i t0 like (inr goes_on) = leaving c i t0 like goes_on

pub returns-clause-followed : goal.returns-clause-followed
returns-clause-followed c = λ r ge lt. (alike (goal.at.returns-clause-followed c).After-min-floor r ge lt).followed

pub returns-clause-floor : goal.returns-clause-floor
returns-clause-floor c = λ r t0 ge lt near.
    let at = (goal.at.returns-clause-floor c).After-min-floor in
    each at r t0 (alike at r ge lt) near
