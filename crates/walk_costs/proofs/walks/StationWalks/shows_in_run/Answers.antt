use Rattle.std.proofs.Common.{◌≡◌, ◌+◌, ◌∙◌, ◌%◌, subst, sym, ap}
use Rattle.minute_parts.specs.declared.runs.Run.{Run}
use Rattle.minute_parts.specs.Parts.{PartTable, local_time}
use Rattle.minute_parts.specs.Runs.{run_at}
use Rattle.walk_costs.specs.Walks.{PricedParts}
use Rattle.walk_costs.proofs.AnnouncedLaws.{none_of_alike}
use Rattle.walk_costs.proofs.ShownLaws.{shown_alike}
use Rattle.walk_costs.proofs.walks.StationWalks.shows_in_run.Goals as goal

pub returns-then-is_told_alike : goal.returns-then-is_told_alike
returns-then-is_told_alike c =
    let parts_is = c.parts-parts.ensures ∙ ap (λ (v : PricedParts). v.parts) c.self.view_is in
    let run_is = c.run-run.ensures ∙ ap (λ (v : PartTable). run_at v.runs c.args.number) parts_is in
    let alike = subst (λ (r : Run). r.unannounced ≡ r.announced) run_is (c.is_told_alike.ensures.0 c.if-is_told_alike.true) in
    let run = run_at c.args.self.now.parts.runs c.args.number in
    (λ no. cc, λ h. absurd (none_of_alike c.args.self.now.parts run (local_time run c.args.t0) c.args.p c.args.from c.args.to alike h))

pub returns : goal.returns
returns c =
    let parts_is = c.parts-parts.ensures ∙ ap (λ (v : PricedParts). v.parts) c.self.view_is in
    let run_is = c.run-run.ensures ∙ ap (λ (v : PartTable). run_at v.runs c.args.number) parts_is in
    let run = run_at c.args.self.now.parts.runs c.args.number in
    let time_is = c.local_time.ensures.time ∙ ap (λ (r : Run). (c.args.t0 + r.shift) % 1440) run_is in (
      λ is. shown_alike c.parts-parts.result.now c.args.self.now.parts c.run-run.result.now run c.local_time.result (local_time run c.args.t0) c.args.p c.args.from c.args.to
          parts_is run_is time_is (c.some_slot_shows.ensures.0 is),
      λ h. c.some_slot_shows.ensures.1 (shown_alike c.args.self.now.parts c.parts-parts.result.now run c.run-run.result.now (local_time run c.args.t0) c.local_time.result c.args.p c.args.from c.args.to
          (sym parts_is) (sym run_is) (sym time_is) h),
    )
