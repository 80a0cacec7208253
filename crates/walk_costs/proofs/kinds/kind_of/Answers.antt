use Rattle.std.proofs.Common.{ℕ, List, get_or, sym, ap, ◌∙◌}
use Rattle.minute_parts.specs.declared.runs.Run.{Run}
use Rattle.minute_parts.specs.Parts.{part_where}
use Rattle.minute_parts.specs.Runs.{run_at}
use Rattle.walk_costs.specs.Kinds.{either_set, end_in}
use Rattle.walk_costs.proofs.LeastLaws.{either_at}
use Rattle.walk_costs.proofs.kinds.kind_of.Goals as goal

pub returns : goal.returns
returns c =
    let runs = c.args.parts.now.runs in
    let part = λ (i : ℕ). part_where c.args.announced (run_at runs i) in
    let one = c.date_part-one.ensures ∙ ap (λ (r : Run). part_where c.args.announced r) c.run.ensures in
    let other = c.date_part-other.ensures ∙ ap (λ (r : Run). part_where c.args.announced r) c.run-2.ensures in
    record {
      told = λ s within lt gives.
          c.told_by.ensures s lt gives
          ∙ ap (λ (a : List ℕ). either_set (get_or a s 0) (get_or c.date_part-other.result.now s 0)) one
          ∙ ap (λ (b : List ℕ). either_set (get_or (part_where c.args.announced (run_at runs c.args.run)) s 0) (get_or b s 0)) (other ∙ ap part (c.end_in.ensures.end within))
          ∙ sym (either_at (part_where c.args.announced (run_at runs c.args.run)) (part_where c.args.announced (run_at runs (end_in c.args.across c.args.run))) s lt);
      last = λ within. c.last_begin.ensures;
    }
