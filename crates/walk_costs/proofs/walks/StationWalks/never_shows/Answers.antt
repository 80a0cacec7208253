use Rattle.std.proofs.Common.{◌≡◌, ◌<◌, ◌∙◌, length, subst, ap, arith}
use Rattle.minute_parts.specs.declared.runs.Run.{Run}
use Rattle.minute_parts.specs.Parts.{IsPartTable, PartTable}
use Rattle.minute_parts.specs.Runs.{end_of_run, run_at}
use Rattle.walk_costs.specs.Walks.{PricedParts}
use Rattle.walk_costs.proofs.AnnouncedLaws.{alike_before_next, more_alike, never, same_sets}
use Rattle.walk_costs.proofs.walks.StationWalks.never_shows.Goals as goal
use Rattle.walk_costs.proofs.walks.StationWalks.never_shows.Goals.{After-run_end}

table : (c : After-run_end) → IsPartTable c.args.self.now.parts
table c = subst (λ (v : PricedParts). IsPartTable v.parts) c.self.view_is c.self.invariant.priced.table

station : (c : After-run_end) → c.args.self.now.parts.station ≡ c.args.self.now.grid.station
station c = subst (λ (v : PricedParts). v.parts.station ≡ v.grid.station) c.self.view_is c.self.invariant.priced.station

-- where the run ends, and that its date tells the same
run_is : (c : After-run_end) → (c.loop-i.i < length c.args.self.now.parts.runs)
    × (c.run_end.result ≡ end_of_run c.args.self.now.parts.runs c.args.self.now.parts.end c.loop-i.i)
    × ((run_at c.args.self.now.parts.runs c.loop-i.i).unannounced ≡ (run_at c.args.self.now.parts.runs c.loop-i.i).announced)
run_is c =
    let parts_is = c.parts-parts.ensures ∙ ap (λ (v : PricedParts). v.parts) c.self.view_is in
    let end = c.run_end.ensures ∙ ap (λ (v : PartTable). end_of_run v.runs v.end c.loop-i.i) parts_is in
    let at = c.run.ensures ∙ ap (λ (v : PartTable). run_at v.runs c.loop-i.i) parts_is in
    let same = subst (λ (r : Run). r.unannounced ≡ r.announced) at (c.is_told_alike.ensures.0 c.if-not-is_told_alike.false) in
    let count = c.runs-i-end.ensures ∙ ap (λ (v : PartTable). length v.runs) parts_is in
    (omega (arith, c.loop-i-test.true, count), end, same)

pub returns-then-last-run_end-clause-never : goal.returns-then-last-run_end-clause-never
returns-then-last-run_end-clause-never c =
    let w = c.args.self.now in
    let known = (goal.at.returns-then-last-run_end-clause-never c).After-run_end in
    let here = run_is known in
    λ told. never w (station known) (table known) c.args.lo c.args.last
    (λ t le within. more_alike w.parts c.args.lo c.loop-i.i c.run_end.result here.0 here.1 here.2 c.loop-i.invariant.alike t le (omega (arith, within, c.if-last-run_end.true)))

pub returns-then-last-run_end-clause-alike : goal.returns-then-last-run_end-clause-alike
returns-then-last-run_end-clause-alike c =
    let w = c.args.self.now in
    let known = (goal.at.returns-then-last-run_end-clause-alike c).After-run_end in
    let here = run_is known in
    λ told. same_sets w (station known) (table known) c.args.lo c.args.last
    (λ t le within. more_alike w.parts c.args.lo c.loop-i.i c.run_end.result here.0 here.1 here.2 c.loop-i.invariant.alike t le (omega (arith, within, c.if-last-run_end.true)))

pub loop-i-preserved : goal.loop-i-preserved
loop-i-preserved c =
    let known = (goal.at.loop-i-preserved c).After-run_end in
    let here = run_is known in
    record {
      alike = alike_before_next c.args.self.now.parts c.args.lo c.loop-i.i c.run_end.result here.0 here.1 here.2 c.loop-i.invariant.alike (table known)
          (omega (arith, c.if-last-run_end.false, c.requires.encoded));
    }
