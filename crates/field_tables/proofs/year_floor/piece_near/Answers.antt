use Rattle.std.proofs.Common.{◌≡◌, ℕ, ◌+◌, ◌-◌, ◌<◌, ◌≤◌, Bool, inl, inr, false, length, ap, sym, subst, arith}
use Rattle.std.proofs.Math.Nat.{min-eq_left, min-eq_right, min-le_left, min-le_right}
use Rattle.std.proofs.lemmas.Bool.{cases_lt}
use Rattle.minute_parts.specs.Parts.{PartTable}
use Rattle.minute_parts.specs.Runs.{end_of_run}
use Rattle.minute_parts.specs.Unions.{AreRegular}
use Rattle.minute_parts.specs.Walks.{later_minutes}
use Rattle.walk_costs.specs.Near.{StaysNear}
use Rattle.walk_costs.specs.Walks.{cost_of}
use Rattle.field_tables.proofs.YearLaws.{ends_later, near_by}
use Rattle.field_tables.proofs.year_floor.piece_near.Goals as goal
use Rattle.field_tables.proofs.year_floor.piece_near.Goals.{After-min-end}

pub run_end-requires : goal.run_end-requires
run_end-requires c =
    let last = c.least_near-near.result.last in
    let some : c.args.run < last = omega (arith, c.least_near-near.ensures.begun, c.if-near-run.false) in
    let followed = c.least_near-near.ensures.followed (last - 1) (omega (arith, some)) (omega (arith, some)) in
    subst (λ (p : PartTable). last - 1 < length p.runs) (sym c.parts-parts.ensures) (omega (arith, followed.next))

-- there are runs of which the floor is
some : (c : After-min-end) → c.args.run < c.least_near-near.result.last
some c = omega (arith, c.least_near-near.ensures.begun, c.if-near-run.false)

few : (c : After-min-end) → later_minutes (length c.args.walks.now.grid.rows) c.args.block.now.second ≤ 20
few c =
    omega (arith, c.later_minutes.ensures.count, c.later_minutes.ensures.bound, ap (later_minutes (length c.args.walks.now.grid.rows)) c.requires.second)

regular : (c : After-min-end) → AreRegular false c.args.block.now.lo
    (c.args.block.now.hi + later_minutes (length c.args.walks.now.grid.rows) c.args.block.now.second) c.args.walks.now.parts.end
regular c =
    subst (λ (a : Bool). AreRegular a c.args.block.now.lo
    (c.args.block.now.hi + later_minutes (length c.args.walks.now.grid.rows) c.args.block.now.second) c.args.walks.now.parts.end)
    c.requires.unannounced c.requires.regular

of_minute : (c : After-min-end) → c.args.block.now.second < 60
of_minute c = omega (arith, c.requires.costs.second, c.requires.second)

-- the last of them ends there
end_is : (c : After-min-end) → c.run_end.result
    ≡ end_of_run c.args.walks.now.parts.runs c.args.walks.now.parts.end (c.least_near-near.result.last - 1)
end_is c =
    subst (λ (p : PartTable). c.run_end.result ≡ end_of_run p.runs p.end (c.least_near-near.result.last - 1)) c.parts-parts.ensures c.run_end.ensures

within : (c : After-min-end) → c.min-end.result ≤ c.args.block.now.hi
within c = omega (arith, c.min-end.ensures, min-le_left c.args.block.now.hi c.run_end.result)

in_runs : (c : After-min-end) → c.min-end.result
    ≤ end_of_run c.args.walks.now.parts.runs c.args.walks.now.parts.end (c.least_near-near.result.last - 1)
in_runs c = omega (arith, end_is c, c.min-end.ensures, min-le_right c.args.block.now.hi c.run_end.result)

more : (c : After-min-end) → c.args.t < c.min-end.result
more c =
    let later = ends_later c.args.walks.now c.args.block.now.second c.args.block.now.lo c.args.block.now.hi c.args.t c.min-end.result c.args.run
    c.least_near-near.result.last (of_minute c) (few c) (regular c) c.requires.begun (within c) c.requires.here (some c)
    c.least_near-near.ensures.followed (in_runs c) in
    let ends : c.args.t < c.run_end.result = omega (arith, c.requires.here.not_over, later, end_is c) in
    elim (cases_lt c.args.block.now.hi c.run_end.result) [
      | inl lt ↦ (
          let under : c.args.block.now.hi ≤ c.run_end.result = omega (arith, lt) in
          omega (arith, c.min-end.ensures, min-eq_left under, c.requires.some))
      | inr le ↦ (
          let above : c.run_end.result ≤ c.args.block.now.hi = omega (arith, le) in
          omega (arith, c.min-end.ensures, min-eq_right above, ends))
    ]

pub returns-clause-more : goal.returns-clause-more
returns-clause-more c = more (goal.at.returns-clause-more c).After-min-end

floor : (c : After-min-end) (t0 : ℕ) → c.args.t ≤ t0 → t0 < c.min-end.result
    → c.least_near-near.result.floor ≤ cost_of c.args.walks.now c.args.block.now.announced c.args.block.now.second t0
floor c t0 ge lt =
    let w = c.args.walks.now in
    let n = c.least_near-near.result.floor in
    let found = near_by w c.args.block.now.second c.args.block.now.lo c.args.block.now.hi c.args.t c.min-end.result c.args.run
    c.least_near-near.result.last (of_minute c) (few c) (regular c) c.requires.begun (within c) c.requires.here (some c)
    c.least_near-near.ensures.followed (in_runs c) t0 ge lt in
    subst (λ (a : Bool). n ≤ cost_of w a c.args.block.now.second t0) (sym c.requires.unannounced)
    (subst (λ s. n ≤ cost_of w false s t0) c.requires.second
    (c.least_near-near.ensures.floor found.0 t0 found.1 found.2
    (subst (λ s. StaysNear w s t0 found.0) (sym c.requires.second) found.3)))

pub returns-clause-floor : goal.returns-clause-floor
returns-clause-floor c = floor (goal.at.returns-clause-floor c).After-min-end
