use Rattle.std.proofs.Common.{◌≡◌, ℕ, ◌+◌, ◌*◌, ◌<◌, ◌≤◌, List, [], length, get_or, sym, ap, ◌∙◌, subst, arith}
use Rattle.std.proofs.Math.ListN.{replicate}
use Rattle.std.proofs.Math.Nat.{min-le_left, min-le_right}
use Rattle.std.proofs.lemmas.List.{get_or-replicate, get_or_read}
use Rattle.std.proofs.lemmas.Nat.{mul-add-lt}
use Rattle.minute_parts.specs.Unions.{AreRegular}
use Rattle.minute_parts.specs.Walks.{later_minutes}
use Rattle.walk_costs.specs.Apart.{IsDateFloor}
use Rattle.walk_costs.specs.Walks.{PricedParts}
use Rattle.field_tables.specs.Sums.{AreSums, Sums}
use Rattle.field_tables.proofs.MinuteLaws.{regular_walks}
use Rattle.field_tables.proofs.SeasonFloorLaws.{no_sum, one_more_date, regular_within, season_floor}
use Rattle.field_tables.proofs.SumLaws.{regular}
use Rattle.field_tables.proofs.sums.WindowSums.floor_in.Goals as goal
use Rattle.field_tables.proofs.sums.WindowSums.floor_in.Goals.{After-index, After-len-i-end}

are : (c : After-len-i-end) → AreSums c.args.self.now
are c = subst AreSums c.self.view_is c.self.invariant.0

as_many : (c : After-len-i-end) → c.len-i-end.result ≡ length c.args.self.now.stations
as_many c = omega (arith, c.len-i-end.ensures, c.self.inside.stations.ok.0, ap (λ (s : Sums). length s.stations) c.self.view_is)

pub loop-i-init : goal.loop-i-init
loop-i-init c =
    let known = (goal.at.loop-i-init c).After-len-i-end in
    let none : List ℕ = replicate 30 0 in
    record {
      sum = no_sum c.args.self.now (are known) c.args.season.now.shifts.items c.requires.season.shifts c.args.block.now c.args.from c.args.to none
          (λ m few. get_or-replicate {A = ℕ} 30 m 0 0 few);
    }

-- it is the station of this place
is : (c : After-index) → c.index.result.now ≡ get_or c.args.self.now.stations c.loop-i.i c.index.result.now
is c = c.index.ensures ∙ ap (λ (s : Sums). get_or s.stations c.loop-i.i c.index.result.now) c.self.view_is

pub date_floor-requires-clause-regular : goal.date_floor-requires-clause-regular
date_floor-requires-clause-regular c =
    let sums = c.args.self.now in
    let b = c.args.block.now in
    let w = c.index.result.now in
    let at = goal.at.date_floor-requires-clause-regular c in
    let less : c.loop-i.i < length sums.stations = omega (arith, c.loop-i-test.true, as_many at.After-len-i-end) in
    subst (λ (v : PricedParts). AreRegular b.announced c.args.from (c.args.to + later_minutes (length v.grid.rows) b.second) v.parts.end) (sym c.walks-walks.ensures)
    (regular_within b.announced b.lo b.hi c.args.from c.args.to (later_minutes (length w.grid.rows) b.second) w.parts.end c.requires.begun c.requires.within
    (regular sums (are at.After-len-i-end) c.loop-i.i w less (is at.After-index) b.announced b.second b.lo b.hi (regular_walks sums b c.requires.walks c.requires.encoded)))

pub loop-i-preserved : goal.loop-i-preserved
loop-i-preserved c =
    let sums = c.args.self.now in
    let b = c.args.block.now in
    let ss = c.args.season.now.shifts.items in
    let i = c.loop-i.i in
    let w = c.index.result.now in
    let at = goal.at.loop-i-preserved c in
    let dates = c.in_ok-dates.dates in
    let less : i < length sums.stations = omega (arith, c.loop-i-test.true, as_many at.After-len-i-end) in
    let within : i < length ss = omega (arith, less, c.requires.season.shifts) in
    let shift = c.if-dates-index.false ∙ get_or_read ss i _ within c.index-in-loop-i.ensures 0 in
    let floor = subst (λ (v : PricedParts). IsDateFloor v b.announced b.second c.args.from c.args.to dates) c.walks-walks.ensures c.in_ok-dates.ensures in
    let kept : c.saturating_add-kept.result ≤ c.loop-i.kept + dates.kept = omega (arith, c.saturating_add-kept.ensures, min-le_left (c.loop-i.kept + dates.kept) 4_294_967_295) in
    record {
      sum = one_more_date sums (are at.After-len-i-end) ss c.requires.season.shifts b c.args.from c.args.to i w less (is at.After-index) dates c.loop-i.kept
          c.saturating_add-kept.result c.loop-i.given shift kept floor c.loop-i.invariant.sum;
    }

pub returns-clause-floor : goal.returns-clause-floor
returns-clause-floor c =
    let sums = c.args.self.now in
    let b = c.args.block.now in
    let season = c.args.season.now in
    let i = c.loop-i.i in
    let known = (goal.at.returns-clause-floor c).After-len-i-end in
    let all : i ≡ length sums.stations = omega (arith, c.loop-i-test.false, c.loop-i.auto.i-end, as_many known) in
    let within : b.second * 27 + c.args.piece < length season.costs.items =
    omega (arith, mul-add-lt b.second 27 c.args.piece 60 c.requires.walks.second c.requires.piece, c.requires.season.rows.count) in
    let row = get_or_read season.costs.items (b.second * 27 + c.args.piece) _ within c.index-row.ensures [] in
    season_floor sums (are known) season c.requires.season b c.args.from c.args.to c.args.piece i c.loop-i.kept c.min.result c.loop-i.given c.index-row.result.now
    c.requires.walks.second c.requires.piece c.requires.here all c.loop-i.invariant.sum row
    (λ m few.
    omega (
      arith,
      c.min.ensures,
      c.saturating_add.ensures,
      min-le_right 1_920_000_000 c.saturating_add.result,
      min-le_left (c.loop-i.kept + c.least_of.result) 4_294_967_295,
      c.least_of.ensures m few,
    ))
