use Rattle.std.proofs.Common.{◌+◌, ◌∙◌, ◌%◌, length, subst, sym, ap, arith}
use Rattle.minute_parts.specs.declared.runs.Run.{Run}
use Rattle.minute_parts.specs.Parts.{IsPartTable, PartTable}
use Rattle.minute_parts.specs.Runs.{run_at}
use Rattle.walk_costs.specs.Shown.{SomeSlotShows}
use Rattle.walk_costs.specs.Walks.{ArePriced, PricedParts}
use Rattle.walk_costs.proofs.RunLaws.{ends, in_century}
use Rattle.walk_costs.proofs.ShownLaws.{show_slots, shown_alike, slots_show}
use Rattle.walk_costs.proofs.walks.StationWalks.shows_in_slot.Goals as goal

pub local_time-u-requires : goal.local_time-u-requires
local_time-u-requires c =
    let w = c.args.self.now in
    let table = subst (λ (v : PricedParts). IsPartTable v.parts) c.self.view_is c.self.invariant.priced.table in
    let begins = c.requires.begins in
    omega (arith, begins.not_over, ends w.parts table c.args.run begins.is_run, in_century w.parts table)

pub returns : goal.returns
returns c =
    let own = c.self.inside in
    let w = c.args.self.now in
    let priced = subst (λ (v : PricedParts). ArePriced v.parts v.grid c.self.inside.walks c.self.inside.added) c.self.view_is c.self.invariant.priced in
    let parts_is = c.parts-parts.ensures ∙ ap (λ (v : PricedParts). v.parts) c.self.view_is in
    let run_is = c.run-at.ensures ∙ ap (λ (v : PartTable). run_at v.runs c.args.run) parts_is in
    let time_is = c.local_time-u.ensures.time ∙ ap (λ (r : Run). (c.args.t0 + r.shift) % 1440) run_is in
    let count = c.seconds.ensures.count ∙ ap (λ (v : PricedParts). length v.grid.rows) c.self.view_is in
    let run = run_at c.args.self.now.parts.runs c.args.run in (
      λ is. slots_show w own.walks own.added priced c.args.p c.args.t0 c.args.run c.requires
          (shown_alike c.parts-parts.result.now c.args.self.now.parts c.run-at.result.now run c.local_time-u.result _ c.args.p 0 (length c.args.self.now.grid.rows)
          parts_is run_is time_is (subst (λ n. SomeSlotShows c.parts-parts.result.now c.run-at.result.now c.local_time-u.result c.args.p 0 n) count (c.some_slot_shows.ensures.0 is))),
      λ shows. c.some_slot_shows.ensures.1
          (subst (λ n. SomeSlotShows c.parts-parts.result.now c.run-at.result.now c.local_time-u.result c.args.p 0 n) (sym count)
          (shown_alike c.args.self.now.parts c.parts-parts.result.now run c.run-at.result.now _ c.local_time-u.result c.args.p 0 (length c.args.self.now.grid.rows)
          (sym parts_is) (sym run_is) (sym time_is) (show_slots w own.walks own.added priced c.args.p c.args.t0 c.args.run c.requires shows))),
    )
