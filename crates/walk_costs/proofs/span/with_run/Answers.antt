use Rattle.std.proofs.Common.{ℕ, List, false, refl, ap, ◌∙◌}
use Rattle.minute_parts.specs.Parts.{part_where}
use Rattle.minute_parts.specs.Runs.{run_at}
use Rattle.walk_costs.specs.Dates.{kept}
use Rattle.walk_costs.specs.Seen.{first_told, told_else}
use Rattle.walk_costs.proofs.SpanLaws.{one_more}
use Rattle.walk_costs.proofs.span.with_run.Goals as goal

pub returns-clause-holds : goal.returns-clause-holds
returns-clause-holds c =
    let told = c.kept-told.ensures ∙ ap (kept c.args.station) (c.date_part.ensures ∙ ap (part_where false) c.run.ensures) in
    let old = c.args.span.now in
    let first = c.first_told-one.ensures ∙ ap (first_told old.one) told in
    one_more c.args.parts.now c.args.station c.requires.table c.requires.station old c.requires.holds c.args.run c.requires.here c.requires.run _ refl refl
    first
    (c.told_else.ensures ∙ ap (λ (one : List ℕ). told_else one old.other c.kept-told.result) first
    ∙ ap (told_else (first_told old.one (kept c.args.station (part_where false (run_at c.args.parts.now.runs c.args.run)))) old.other) told)
