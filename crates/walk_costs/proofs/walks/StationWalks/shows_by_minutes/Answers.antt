use Rattle.std.proofs.Common.{◌≡◌, ◌-◌, ◌*◌, ◌∙◌, min, length, refl, sym, subst, ap, arith}
use Rattle.minute_parts.specs.Parts.{IsPartTable, PartTable}
use Rattle.minute_parts.specs.Runs.{end_of_run}
use Rattle.walk_costs.specs.Walks.{PricedParts}
use Rattle.walk_costs.proofs.RunLaws.{ends, in_century}
use Rattle.walk_costs.proofs.AnnouncedLaws.{all_silent, goes_on, more_silent, some_shows}
use Rattle.walk_costs.proofs.walks.StationWalks.shows_by_minutes.Goals as goal

pub slots_in-to-requires-clause-century : goal.slots_in-to-requires-clause-century
slots_in-to-requires-clause-century c =
    let w = c.args.self.now in
    let table = subst (λ (v : PricedParts). IsPartTable v.parts) c.self.view_is c.self.invariant.priced.table in
    let parts_is = c.parts-parts.ensures ∙ ap (λ (v : PricedParts). v.parts) c.self.view_is in
    let end = c.run_end.ensures ∙ ap (λ (v : PartTable). end_of_run v.runs v.end c.loop-i.i) parts_is in
    omega (arith, end, ends w.parts table c.loop-i.i c.loop-i.invariant.here.is_run, in_century w.parts table)

pub shows_in_run-requires-clause-minute : goal.shows_in_run-requires-clause-minute
shows_in_run-requires-clause-minute c =
    let table = subst (λ (v : PricedParts). IsPartTable v.parts) c.self.view_is c.self.invariant.priced.table in
    omega (arith, c.requires.regular.early, in_century c.args.self.now.parts table)

pub returns-then-shows_in_run : goal.returns-then-shows_in_run
returns-then-shows_in_run c =
    let w = c.args.self.now in
    let table = subst (λ (v : PricedParts). IsPartTable v.parts) c.self.view_is c.self.invariant.priced.table in
    let station = subst (λ (v : PricedParts). v.parts.station ≡ v.grid.station) c.self.view_is c.self.invariant.priced.station in
    let parts_is = c.parts-parts.ensures ∙ ap (λ (v : PricedParts). v.parts) c.self.view_is in
    let end = c.run_end.ensures ∙ ap (λ (v : PartTable). end_of_run v.runs v.end c.loop-i.i) parts_is in
    let count = c.seconds-seconds.ensures.count ∙ ap (λ (v : PricedParts). length v.grid.rows) c.self.view_is in (
      λ yes. some_shows w station table c.args.p c.args.t0 c.requires.second c.requires.regular c.loop-i.i c.loop-i.from c.slots_in-to.result c.run_end.result
          c.loop-i.invariant.here end (omega (arith, c.slots_in-to.ensures)) (omega (arith, c.slots_in-to.ensures, count))
          (c.shows_in_run.ensures.0 c.if-shows_in_run.true),
      λ h. refl,
    )

pub returns-then-to-seconds : goal.returns-then-to-seconds
returns-then-to-seconds c =
    let w = c.args.self.now in
    let table = subst (λ (v : PricedParts). IsPartTable v.parts) c.self.view_is c.self.invariant.priced.table in
    let station = subst (λ (v : PricedParts). v.parts.station ≡ v.grid.station) c.self.view_is c.self.invariant.priced.station in
    let parts_is = c.parts-parts.ensures ∙ ap (λ (v : PricedParts). v.parts) c.self.view_is in
    let end = c.run_end.ensures ∙ ap (λ (v : PartTable). end_of_run v.runs v.end c.loop-i.i) parts_is in
    let count = c.seconds-seconds.ensures.count ∙ ap (λ (v : PricedParts). length v.grid.rows) c.self.view_is in
    let silent = more_silent w station table c.args.p c.args.t0 c.requires.second c.requires.regular c.loop-i.i c.loop-i.from c.slots_in-to.result c.run_end.result
    c.loop-i.invariant.here end (omega (arith, c.slots_in-to.ensures)) (omega (arith, c.slots_in-to.ensures, count)) c.loop-i.invariant.silent
    (λ h. let some = c.shows_in_run.ensures.1 h in let none = c.if-shows_in_run.false in absurd cc) in (
      λ no. absurd cc,
      λ h. absurd (all_silent w c.args.p c.args.t0 (λ k within. silent k (omega (arith, within, count, c.if-to-seconds.true))) h),
    )

pub loop-i-preserved : goal.loop-i-preserved
loop-i-preserved c =
    let w = c.args.self.now in
    let table = subst (λ (v : PricedParts). IsPartTable v.parts) c.self.view_is c.self.invariant.priced.table in
    let station = subst (λ (v : PricedParts). v.parts.station ≡ v.grid.station) c.self.view_is c.self.invariant.priced.station in
    let parts_is = c.parts-parts.ensures ∙ ap (λ (v : PricedParts). v.parts) c.self.view_is in
    let end = c.run_end.ensures ∙ ap (λ (v : PartTable). end_of_run v.runs v.end c.loop-i.i) parts_is in
    let count = c.seconds-seconds.ensures.count ∙ ap (λ (v : PricedParts). length v.grid.rows) c.self.view_is in
    record {
      here = goes_on w station table c.args.p c.args.t0 c.requires.second c.requires.regular c.loop-i.i c.loop-i.from c.slots_in-to.result c.run_end.result
          c.loop-i.invariant.here end (c.slots_in-to.ensures ∙ ap (λ n. min (60 * (c.run_end.result - c.args.t0) - c.args.p) n) count)
          (λ e. c.if-to-seconds.false (e ∙ sym count));
      within = omega (arith, c.slots_in-to.ensures, count);
      silent = more_silent w station table c.args.p c.args.t0 c.requires.second c.requires.regular c.loop-i.i c.loop-i.from c.slots_in-to.result c.run_end.result
          c.loop-i.invariant.here end (omega (arith, c.slots_in-to.ensures)) (omega (arith, c.slots_in-to.ensures, count)) c.loop-i.invariant.silent
          (λ h. let some = c.shows_in_run.ensures.1 h in let none = c.if-shows_in_run.false in absurd cc);
    }
