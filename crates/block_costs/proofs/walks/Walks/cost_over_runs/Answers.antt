use Rattle.std.proofs.Common.{length, ap, ◌∙◌, arith}
use Rattle.minute_parts.specs.Parts.{PartTable}
use Rattle.block_costs.proofs.walks.Walks.cost_over_runs.Goals as goal

pub overflow_add-following : goal.overflow_add-following
overflow_add-following c =
    let count = c.runs.ensures ∙ ap (λ (v : PartTable). length v.runs) c.parts-parts.ensures in
    omega (arith, count, c.requires.here.is_run)
