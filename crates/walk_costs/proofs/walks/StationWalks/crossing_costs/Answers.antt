use Rattle.std.proofs.Common.{length, ap, ◌∙◌, arith}
use Rattle.minute_parts.specs.Parts.{PartTable}
use Rattle.walk_costs.specs.Walks.{PricedParts}
use Rattle.walk_costs.proofs.walks.StationWalks.crossing_costs.Goals as goal

pub overflow_add-run : goal.overflow_add-run
overflow_add-run c =
    let count = c.runs.ensures ∙ ap (λ (v : PartTable). length v.runs) (c.parts-parts.ensures ∙ ap (λ (v : PricedParts). v.parts) c.self.view_is) in
    omega (arith, count, c.requires.next)
