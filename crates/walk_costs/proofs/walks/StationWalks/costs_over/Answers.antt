use Rattle.std.proofs.Common.{◌+◌, Bool, if◌then◌else◌, length, ap, ◌∙◌, subst, arith}
use Rattle.std.proofs.lemmas.Bool.{lt-ltb}
use Rattle.minute_parts.specs.Parts.{IsPartTable, PartTable}
use Rattle.minute_parts.specs.Runs.{end_of_run, first_of}
use Rattle.walk_costs.specs.Walks.{PricedParts}
use Rattle.walk_costs.proofs.RunLaws.{begins_in_century}
use Rattle.walk_costs.proofs.walks.StationWalks.costs_over.Goals as goal

pub local_time-from-requires : goal.local_time-from-requires
local_time-from-requires c =
    let w = c.args.self.now in
    let i = c.args.run in
    let table = subst (λ (v : PricedParts). IsPartTable v.parts) c.self.view_is c.self.invariant.priced.table in
    let next = ap (λ (b : Bool). if b then first_of w.parts.runs (i + 1) else w.parts.end) (lt-ltb (i + 1) (length w.parts.runs) c.requires.next) in
    let end = c.run_end-end.ensures ∙ ap (λ (v : PartTable). end_of_run v.runs v.end i) (c.parts-parts.ensures ∙ ap (λ (v : PricedParts). v.parts) c.self.view_is) in
    omega (arith, end, next, begins_in_century w.parts table (i + 1) c.requires.next)

pub local_time-to-requires : goal.local_time-to-requires
local_time-to-requires c =
    let w = c.args.self.now in
    let i = c.args.run in
    let table = subst (λ (v : PricedParts). IsPartTable v.parts) c.self.view_is c.self.invariant.priced.table in
    let next = ap (λ (b : Bool). if b then first_of w.parts.runs (i + 1) else w.parts.end) (lt-ltb (i + 1) (length w.parts.runs) c.requires.next) in
    let end = c.run_end-end.ensures ∙ ap (λ (v : PartTable). end_of_run v.runs v.end i) (c.parts-parts.ensures ∙ ap (λ (v : PricedParts). v.parts) c.self.view_is) in
    omega (arith, end, next, begins_in_century w.parts table (i + 1) c.requires.next)
